-- A row with one entry written anew: what is read of it, and how many entries pass a test. Assumes nothing.
use mathlib.Core.Path.{◌≡◌}
use mathlib.Core.Bool.{Bool, true, false, cond}
use mathlib.Core.List.{List, [], ◌∷◌}
use Prim.Native.Nat.{ℕ, zero, suc, ◌+◌, ◌≤◌, ◌<◌}
use native.Mathlib.Omega.{arith}
use borrow.Author.Tests.{eqb-true, eqb-false}
use lib.Dec.{eqb}
use lib.ListN.{length, get_or, set}
use lib.Seq.{get_or-set_same, get_or-set_other}
use Rattle.rows.specs.Walk.{bit, many}
use Rattle.rows.proofs.Cases.{on, tick_bit}

module _ {A : Type 0} where
  -- THE LAW OF A ROW: entry j after entry i was written anew
  pub row : (l : List A) (i j : ℕ) (a d : A) → i < length l → get_or (set l i a) j d ≡ cond (eqb j i) a (get_or l j d)
  row l i j a d h =
      on (eqb j i) (λ e. rw (e, eqb-true j i e) (get_or-set_same l i a d h))
      (λ e. rw e (get_or-set_other l i j a d (eqb-false j i e)))

  -- what holds of the new entry, and of each other one, holds of entry j
  pub row_case : (P : A → Type 0) (l : List A) (i j : ℕ) (a d : A) → i < length l → (j ≡ i → P a) → (¬ (j ≡ i) → P (get_or l j d))
      → P (get_or (set l i a) j d)
  row_case P l i j a d h f g =
      rw (row l i j a d)
      (on (eqb j i) (λ b. rw b (f (eqb-true j i b))) (λ b. rw b (g (eqb-false j i b))))

  -- a number read off the entries: kept, one more, one less at i
  module _ (f : A → ℕ) (l : List A) (i j : ℕ) (a d : A) (h : i < length l) where
    pub row_same : f a ≡ f (get_or l i d) → f (get_or (set l i a) j d) ≡ f (get_or l j d)
    row_same e = rw (row l i j a d) (on (eqb j i) (λ b. rw (b, eqb-true j i b) e) (λ b. rw b))

    pub row_up : f a ≡ f (get_or l i d) + 1 → f (get_or (set l i a) j d) ≡ f (get_or l j d) + bit (eqb j i)
    row_up e = rw (row l i j a d) (on (eqb j i) (λ b. rw (b, eqb-true j i b) e) (λ b. rw b (omega arith)))

    pub row_down : f a + 1 ≡ f (get_or l i d) → f (get_or (set l i a) j d) + bit (eqb j i) ≡ f (get_or l j d)
    row_down e = rw (row l i j a d) (on (eqb j i) (λ b. rw (b, eqb-true j i b) e) (λ b. rw b (omega arith)))

  -- how many entries pass a test
  module _ (p : A → Bool) where
    pub many_set : (l : List A) (i : ℕ) (a d : A) → i < length l → many p (set l i a) + bit (p (get_or l i d)) ≡ many p l + bit (p a)
    many_set [] i a d h = absurd (omega arith)
    many_set (x ∷ l) zero a d h = rw (tick_bit (p a), tick_bit (p x)) (omega arith)
    many_set (x ∷ l) (suc i) a d h = rw (tick_bit (p x) (many p (set l i a)), tick_bit (p x) (many p l)) (omega (arith, many_set l i a d (omega arith)))

    -- none passes
    pub many_none : (l : List A) (d : A) → p d ≡ false → many p l ≡ 0 → (j : ℕ) → p (get_or l j d) ≡ false
    many_none [] d e m j = e
    many_none (x ∷ l) d e m zero = on (p x) (λ b. absurd (omega (arith, rw b at m))) (λ b. b)
    many_none (x ∷ l) d e m (suc j) = many_none l d e (on (p x) (λ b. absurd (omega (arith, rw b at m))) (λ b. rw b at m)) j

    -- at most one passes, and it is entry i: with that entry written anew none passes
    pub many_sole : (l : List A) (i : ℕ) (d : A) → p d ≡ false → i < length l → p (get_or l i d) ≡ true → many p l ≤ 1
        → (j : ℕ) → ¬ (j ≡ i) → p (get_or l j d) ≡ false
    many_sole l i d e h t m j n =
        let z = rw (t, e) at (many_set l i d d h) in
        rw (← get_or-set_other l i j d d n) (many_none (set l i d) d e (omega arith) j)
