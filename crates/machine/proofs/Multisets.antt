-- What is read of a multiset of numbers with one more or one less, and of one that holds a single value. Assumes nothing.
use mathlib.Core.Path.{◌≡◌, refl}
use mathlib.Core.Bool.{cond}
use Prim.Native.Nat.{ℕ, ◌+◌, ◌-◌}
use native.Mathlib.Omega.{arith}
use borrow.Author.Tests.{eq-eqb, ne_eqb}
use lib.Dec.{eqb}
use Rattle.rows.proofs.Cases.{on}
use Rattle.machine.specs.Multiset.{Multiset, insert, remove}

-- ---------- one more, one less: at t, and at any other number

module _ (m : Multiset ℕ) (t : ℕ) where
  pub insert_here : insert eqb t m t ≡ m t + 1
  insert_here = rw (eq-eqb t t refl)

  pub insert_other : (u : ℕ) → ¬ (u ≡ t) → insert eqb t m u ≡ m u
  insert_other u n = rw (ne_eqb u t n) (omega arith)

  pub remove_here : remove eqb t m t ≡ m t - 1
  remove_here = rw (eq-eqb t t refl)

  pub remove_other : (u : ℕ) → ¬ (u ≡ t) → remove eqb t m u ≡ m u
  remove_other u n = rw (ne_eqb u t n) (omega arith)

-- ---------- a multiset of one value

-- t held n times, and nothing else
abbrev pub only : ℕ → ℕ → Multiset ℕ
only t n = λ u. cond (eqb u t) n 0

module _ (t n : ℕ) where
  pub only_here : only t n t ≡ n
  only_here = rw (eq-eqb t t refl)

  pub only_other : (u : ℕ) → ¬ (u ≡ t) → only t n u ≡ 0
  only_other u h = rw (ne_eqb u t h)

  -- one t more, one t less: it stays a multiset of t
  pub insert_at_only : (u : ℕ) → insert eqb t (only t n) u ≡ only t (n + 1) u
  insert_at_only u = on (eqb u t) (λ b. rw b) (λ b. rw b (omega arith))

  pub remove_at_only : (u : ℕ) → remove eqb t (only t n) u ≡ only t (n - 1) u
  remove_at_only u = on (eqb u t) (λ b. rw b) (λ b. rw b (omega arith))
