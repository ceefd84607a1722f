-- One cell written anew by a reader's step: what every cell counts after it. Assumes nothing.
use Prim.Native.Nat.{ℕ, ◌+◌, ◌<◌}
use mathlib.Core.Path.{◌≡◌, refl}
use mathlib.Core.Bool.{true}
use native.Mathlib.Omega.{arith}
use lib.Dec.{eqb, ltb}
use lib.ListN.{length}
use borrow.Author.Tests.{ltb-true}
use Rattle.rows.specs.Walk.{bit}
use Rattle.rows.proofs.Row.{row_same, row_up, row_down}
use Rattle.schedule.specs.declared.steps.LockStep.TheVariants.{SharedStart, SharedFinish, SharedRelease}
use Rattle.lock.specs.Lock.{zero_cell, cell, next}
use Rattle.lock.specs.declared.state.State.{State}
use Rattle.lock.proofs.Plain.{Plain}

-- a cell in use is in the row
pub in_row : (s : State) (r : ℕ) → Plain s → ltb r s.head.width ≡ true → r < length s.cells
in_row s r p b = omega (arith, ltb-true, p.whole, p.high, b)

-- cell q, where a step changed cell r: where q is r it counts one more, or one less
module _ (s : State) (r : ℕ) (b : r < length s.cells) where
  pub at_start : (q : ℕ) → let c = cell (next s (SharedStart r)) q in
      (c.count ≡ (cell s q).count + bit (eqb q r)) × (c.pending ≡ (cell s q).pending + bit (eqb q r)) × (c.guards ≡ (cell s q).guards)
  at_start q = (
    row_up (λ c. c.count) s.cells r q _ zero_cell b refl,
    row_up (λ c. c.pending) s.cells r q _ zero_cell b refl,
    row_same (λ c. c.guards) s.cells r q _ zero_cell b refl,
  )

  pub at_finish : 0 < (cell s r).pending → (q : ℕ) → let c = cell (next s (SharedFinish r)) q in
      (c.count ≡ (cell s q).count) × (c.pending + bit (eqb q r) ≡ (cell s q).pending) × (c.guards ≡ (cell s q).guards + bit (eqb q r))
  at_finish h q = (
    row_same (λ c. c.count) s.cells r q _ zero_cell b refl,
    row_down (λ c. c.pending) s.cells r q _ zero_cell b (omega arith),
    row_up (λ c. c.guards) s.cells r q _ zero_cell b refl,
  )

  pub at_release : (t : ℕ) → 0 < (cell s r).guards → (cell s r).count ≡ (cell s r).pending + (cell s r).guards → (q : ℕ)
      → let c = cell (next s (SharedRelease r t)) q in
      (c.count + bit (eqb q r) ≡ (cell s q).count) × (c.pending ≡ (cell s q).pending) × (c.guards + bit (eqb q r) ≡ (cell s q).guards)
  at_release t h e q = (
    row_down (λ c. c.count) s.cells r q _ zero_cell b (omega arith),
    row_same (λ c. c.pending) s.cells r q _ zero_cell b refl,
    row_down (λ c. c.guards) s.cells r q _ zero_cell b (omega arith),
  )
