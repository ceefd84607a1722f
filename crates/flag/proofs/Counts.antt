-- How many entries of a row pass a test: none exactly where no place does, one exactly where one place does. Assumes nothing.
use Prim.Native.Nat.{ℕ, suc, ◌+◌, ◌<◌}
use mathlib.Core.Path.{◌≡◌, refl}
use mathlib.Core.Bool.{Bool, true, false, cond, ◌||◌}
use mathlib.Core.List.{List, [], ◌∷◌}
use native.Mathlib.Omega.{arith}
use lib.Dec.{eqb, ltb}
use lib.ListN.{length, get_or, set, get_or-eq_default}
use borrow.Author.Tests.{eqb-true, eqb-false, ltb-true, ltb-false}
use Rattle.rows.specs.Walk.{many}
use Rattle.rows.proofs.Cases.{on, clash}
use Rattle.rows.proofs.Row.{row_case, many_set, many_sole}

module _ {A : Type 0} (p : A → Bool) where
  -- ---------- the first entry that passes

  abbrev pub first_place : List A → ℕ
  first_place [] = 0
  first_place (x ∷ l) = cond (p x) 0 (suc (first_place l))

  pub first_passes : (l : List A) (d : A) → 0 < many p l → (p (get_or l (first_place l) d) ≡ true) × (first_place l < length l)
  first_passes [] d h = absurd (omega arith)
  first_passes (x ∷ l) d h = on (p x)
      (λ b. rw b (b, omega arith))
      (λ b. let r = first_passes l d (rw b at h) in rw b (r.0, omega (arith, r.1)))

  -- ---------- none passes, and one does

  pub none_many : (l : List A) (d : A) → ((j : ℕ) → p (get_or l j d) ≡ false) → many p l ≡ 0
  none_many [] d f = refl
  none_many (x ∷ l) d f = rw (f 0) (none_many l d (λ j. f (suc j)))

  -- behind the row nothing passes that the default does not
  inside_row : (l : List A) (d : A) → p d ≡ false → (i : ℕ) → p (get_or l i d) ≡ true → i < length l
  inside_row l d e i t = on (ltb i (length l))
      (λ b. ltb-true i (length l) b)
      (λ b. let z = get_or-eq_default l d (ltb-false i (length l) b) in clash (cc))

  pub sole_many : (l : List A) (i : ℕ) (d : A) → p d ≡ false → p (get_or l i d) ≡ true → ((j : ℕ) → ¬ (j ≡ i) → p (get_or l j d) ≡ false) → many p l ≡ 1
  sole_many l i d e t f =
      let h = inside_row l d e i t in
      let z = none_many (set l i d) d (λ j. row_case (λ x. p x ≡ false) l i j d d h (λ _. e) (f j)) in
      omega (arith, z, rw (t, e) at (many_set p l i d d h))

  pub many_one : (l : List A) (i : ℕ) (d : A) → p d ≡ false → many p l ≡ 1 → p (get_or l i d) ≡ true → (j : ℕ) → p (get_or l j d) ≡ true → j ≡ i
  many_one l i d e m t j u = on (eqb j i)
      (λ b. eqb-true j i b)
      (λ b. let z = many_sole p l i d e (inside_row l d e i t) t (omega arith) j (eqb-false j i b) in clash (cc))

-- ---------- two tests that never pass together

pub many_either : {A : Type 0} (p q : A → Bool) → ((x : A) → p x ≡ true → q x ≡ false) → (l : List A) → many (λ x. p x || q x) l ≡ many p l + many q l
many_either p q n [] = omega arith
many_either p q n (x ∷ l) = on (p x)
    (λ b. rw (b, n x b, many_either p q n l) (omega arith))
    (λ b. on (q x) (λ c. rw (b, c, many_either p q n l) (omega arith)) (λ c. rw (b, c) (many_either p q n l)))
