-- A row made by calls at the numbers from 0 on: it is the row of what they answer. Assumes nothing.
use mathlib.Core.Path.{◌≡◌, refl, ap, subst, ◌∙◌}
use mathlib.Core.List.{List, ◌∷◌, map}
use Prim.Native.Nat.{ℕ, zero, suc, ◌+◌, ◌≤◌, ◌<◌}
use native.Mathlib.Omega.{arith}
use borrow.Author.Tests.{eqb-true, eqb-false}
use denote.Param.Members.{Mut, Called}
use lib.Dec.{eqb}
use lib.ListN.{get_or, length}
use Rattle.std.specs.Array.{IsFromFnResult, IsFromFnResultFrom}
use Rattle.std.specs.List.{range_with_len}
use Rattle.std.proofs.lemmas.List.FromFn.{fill_by_all}
use Rattle.rows.proofs.Cases.{on}
use Rattle.raw.specs.Raw.{row_from}

module _ {A : Type 0} (entry : ℕ → A) where
  pub length_row : (i n : ℕ) → length (row_from entry i n) ≡ n
  length_row i zero = refl
  length_row i (suc n) = omega (arith, length_row (i + 1) n)

  row_mapped : (i n : ℕ) → map entry (range_with_len i n) ≡ row_from entry i n
  row_mapped i zero = refl
  row_mapped i (suc n) = ap (λ es. entry i ∷ es) (row_mapped (i + 1) n)

  -- a closure that a call leaves as it was, and that answers the entry at its number
  module _ {F : Type 0} (g : Mut F (ℕ × Unit {0}) A) (f : F) (answers : (i : ℕ) (y : A) (q : F) → Called g f (i, tt) y q → (q ≡ f) × (y ≡ entry i)) where
    each_made : (row : List A) (i n k : ℕ) (d : A) → IsFromFnResultFrom g f row i n → i ≤ k → k < i + n → get_or row k d ≡ entry k
    each_made row i zero k d r l h = absurd (omega arith)
    each_made row i (suc n) k d r l h =
        let told = answers i r.1 r.0 r.3 in
        on (eqb i k)
        (λ e. let here = eqb-true i k e in rw (← here) (r.2.1 d ∙ told.1))
        (λ e. let there = eqb-false i k e in let P : F → Type 0 = λ p. IsFromFnResultFrom g p row (i + 1) n in each_made row (i + 1) n k d (subst P told.0 r.4) (omega arith) (omega arith))

    pub row_made : (row : List A) (n : ℕ) (d : A) → IsFromFnResult g f row n → row ≡ row_from entry 0 n
    row_made row n d r = fill_by_all entry row n d r.long (λ k h. each_made row 0 n k d r.each (omega arith) (omega arith)) ∙ row_mapped 0 n
