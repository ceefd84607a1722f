-- What proofs of a table lean on: an option or a number that cannot be otherwise, and rows that read alike. Assumes nothing.
use mathlib.Core.Path.{◌≡◌, refl}
use mathlib.Core.Bool.{Bool, true, false, cond}
use mathlib.Core.List.{List, [], ◌∷◌}
use mathlib.Core.Option.{Option, none, some}
use Prim.Native.Nat.{ℕ, zero, suc}
use native.Mathlib.Omega.{arith}
use lib.Dec.{eqb}
use lib.ListN.{length, get_or}
use borrow.Author.Tests.{eqb-true, eqb-false}
use Rattle.rows.proofs.Cases.{on, clash}

-- a number that cannot be another
pub must_be : (n k : ℕ) → ((n ≡ k → ⊥) → ⊥) → n ≡ k
must_be n k h = on (eqb n k) (λ b. eqb-true n k b) (λ b. absurd (h (eqb-false n k b)))

module _ {A : Type 0} where
  -- an option that cannot be empty, or filled
  pub must_hold : (p : Option A) → (p ≡ none → ⊥) → (a : A) × (p ≡ some a)
  must_hold none n = absurd (n refl)
  must_hold (some a) n = (a, refl)

  pub must_lack : (p : Option A) → ((p ≡ none → ⊥) → ⊥) → p ≡ none
  must_lack none n = refl
  must_lack (some a) n = absurd (n (λ e. clash (cc)))

  -- it holds one value
  pub one_held : {p : Option A} {a b : A} → p ≡ some a → p ≡ some b → a ≡ b
  one_held e f = cc

  -- filled by a flag: what the flag is, and what it holds
  pub there : (b : Bool) (x y : A) → cond b (some x) none ≡ some y → (b ≡ true) × (x ≡ y)
  there true x y e = (refl, cc)
  there false x y e = clash (cc)

  -- two of them that are equal, with z under a flag that is off
  pub there_same : (b c : Bool) (x y z : A) → (b ≡ false → x ≡ z) → (c ≡ false → y ≡ z) → cond b (some x) none ≡ cond c (some y) none → (b ≡ c) × (x ≡ y)
  there_same true true x y z p q e = (refl, cc)
  there_same true false x y z p q e = clash (cc)
  there_same false true x y z p q e = clash (cc)
  there_same false false x y z p q e = (refl, rw (p refl, q refl))

  -- two rows of one length that read alike
  pub rows_alike : (xs ys : List A) (d : A) → length xs ≡ length ys → ((i : ℕ) → get_or xs i d ≡ get_or ys i d) → xs ≡ ys
  rows_alike [] [] d e h = refl
  rows_alike [] (y ∷ ys) d e h = absurd (omega arith)
  rows_alike (x ∷ xs) [] d e h = absurd (omega arith)
  rows_alike (x ∷ xs) (y ∷ ys) d e h = rw (h zero, rows_alike xs ys d (omega arith) (λ i. h (suc i)))
