-- In a sound state the numbers of each accepted step's record stay in range. Assumes nothing.
use mathlib.Core.Path.{◌≡◌, refl}
use mathlib.Core.Bool.{true}
use Prim.Native.Nat.{ℕ}
use native.Mathlib.Omega.{arith}
use borrow.Author.Tests.{ltb-true, lt-ltb}
use lib.Dec.{ltb}
use Rattle.machine.specs.Check.{first}
use Rattle.machine.proofs.Checks.{all_first}
use Rattle.schedule.specs.Limits as limit
use Rattle.lock.specs.Lock.{cell, room_tests, pending_tests, guard_tests}
use Rattle.lock.specs.Sound.{sound}
use Rattle.lock.specs.declared.state.State.{State}
use Rattle.lock.proofs.Plain.{test_cells}

module _ (s : State) (safe : sound s ≡ true) where
  module _ (r : ℕ) where
    pub shared_start_fits : first (room_tests (cell s r)) ≡ 0 → ltb (cell s r).pending limit.counter ≡ true
    shared_start_fits z =
        let t = all_first (room_tests (cell s r)) refl z in
        lt-ltb (cell s r).pending limit.counter (omega (arith, ltb-true (cell s r).count limit.counter t.0, (test_cells s safe r).counted))

    pub shared_finish_fits : first (pending_tests (cell s r)) ≡ 0 → ltb (cell s r).guards limit.counter ≡ true
    shared_finish_fits z =
        let t = all_first (pending_tests (cell s r)) refl z in
        let c = test_cells s safe r in
        lt-ltb (cell s r).guards limit.counter (omega (arith, ltb-true 0 (cell s r).pending t.0, c.small, c.counted))

    pub shared_release_fits : (t : ℕ) → first (guard_tests s.head (cell s r) t) ≡ 0 → ltb 0 (cell s r).count ≡ true
    shared_release_fits t z =
        let a = all_first (guard_tests s.head (cell s r) t) refl z in
        lt-ltb 0 (cell s r).count (omega (arith, ltb-true 0 (cell s r).guards a.0, (test_cells s safe r).counted))
