-- What each of the readers' steps comes to in the whole state: its code, and the state after it or the same. Assumes nothing.
use mathlib.Core.Path.{◌≡◌, refl, sym}
use mathlib.Core.Bool.{true}
use Prim.Native.Nat.{ℕ}
use lib.Dec.{ltb}
use lib.Seq.{set-get_or}
use Rattle.machine.specs.Check.{first}
use Rattle.machine.specs.Machine.{code_of}
use Rattle.machine.specs.Move.{Moved}
use Rattle.machine.proofs.Checks.{rises_append, first_past}
use Rattle.machine.proofs.Fair.{Fair, fair}
use Rattle.schedule.specs.Limits as limit
use Rattle.schedule.specs.declared.steps.LockStep.{LockStep}
use Rattle.schedule.specs.declared.steps.LockStep.TheVariants.{SharedStart, SharedFinish, SharedRelease}
use Rattle.lock.specs.Lock.{lock, rising, zero_cell, cell, with_cell}
use Rattle.lock.specs.Lock.{head_tests, cell_tests}
use Rattle.lock.specs.Lock.{inside_tests, shared_finish_tests}
use Rattle.lock.specs.Lock.{room_tests, pending_tests, guard_tests}
use Rattle.lock.specs.Lock.{shared_started, shared_finished, shared_released}
use Rattle.lock.specs.Moved.{started_cell, finished_cell, released_cell}
use Rattle.lock.specs.Sound.{sound}
use Rattle.lock.specs.declared.state.State.{State}
use Rattle.lock.specs.declared.state.Cell.{Cell}
use Rattle.lock.proofs.Moved.{shared_start_fits, shared_finish_fits, shared_release_fits}

-- where the tests on the head hold, those on the cell decide
decided : (s : State) (x : LockStep) → 0 ≡ first (head_tests s x) → code_of lock s x ≡ first (cell_tests s x)
decided s x z = first_past (head_tests s x) (cell_tests s x) (rises_append 1 (head_tests s x) (cell_tests s x) (rising s x)) (sym z)

module _ (s : State) (i r : ℕ) (p : i ≡ r) (to : Cell) (c : ℕ) where
  abbrev Cells : LockStep → Type 0
  Cells x = Fair lock s x c (with_cell s i to)

  abbrev n : Moved Cell
  n = record { to = to; code = c }

  moved_cell : (x : LockStep) (q : Cell → Moved Cell) → n ≡ q (cell s i) → Fair lock s x (q (cell s r)).code (with_cell s r (q (cell s r)).to) → Cells x
  moved_cell x q e d = rw p (rw (← (rw p at e)) at d)

  -- the cell as it was
  same_cell : with_cell s r (cell s r) ≡ s
  same_cell = rw (set-get_or s.cells r zero_cell)

  pub shared_start_fair : n ≡ started_cell (cell s i) → sound s ≡ true → 0 ≡ first (inside_tests s.head r) → Cells (SharedStart r)
  shared_start_fair e safe z =
      moved_cell (SharedStart r) started_cell e
      (fair lock s (SharedStart r) (with_cell s r) (room_tests (cell s r)) (ltb (cell s r).pending limit.counter) (shared_started (cell s r)) (cell s r)
      (decided s (SharedStart r) z) (shared_start_fits s safe r) refl same_cell)

  pub shared_finish_fair : n ≡ finished_cell (cell s i) → sound s ≡ true → 0 ≡ first (shared_finish_tests s.head r) → Cells (SharedFinish r)
  shared_finish_fair e safe z =
      moved_cell (SharedFinish r) finished_cell e
      (fair lock s (SharedFinish r) (with_cell s r) (pending_tests (cell s r)) (ltb (cell s r).guards limit.counter) (shared_finished (cell s r)) (cell s r)
      (decided s (SharedFinish r) z) (shared_finish_fits s safe r) refl same_cell)

  pub shared_release_fair : (t : ℕ) → n ≡ released_cell s.head (cell s i) t → sound s ≡ true → 0 ≡ first (inside_tests s.head r) → Cells (SharedRelease r t)
  shared_release_fair t e safe z =
      moved_cell (SharedRelease r t) (λ k. released_cell s.head k t) e
      (fair lock s (SharedRelease r t) (with_cell s r) (guard_tests s.head (cell s r) t) (ltb 0 (cell s r).count) (shared_released (cell s r)) (cell s r)
      (decided s (SharedRelease r t) z) (shared_release_fits s safe r t) refl same_cell)
