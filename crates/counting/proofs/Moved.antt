-- A sound state: as many references as the counter says, so that the counters of an accepted step can be moved. Assumes nothing.
use mathlib.Core.Path.{◌≡◌, refl}
use mathlib.Core.Bool.{true}
use Prim.Native.Nat.{◌<◌}
use native.Mathlib.Omega.{arith}
use borrow.Author.Tests.{eqb-true, lt-ltb, ltb-true}
use lib.Dec.{eqb, leb}
use Rattle.rows.proofs.Cases.{both_true}
use Rattle.machine.specs.Machine.{Accepted}
use Rattle.schedule.specs.Limits as limit
use Rattle.schedule.specs.declared.steps.CountingStep.{CountingStep}
use Rattle.schedule.specs.declared.steps.CountingStep.TheVariants.{WriteableToReadable, ReadableToWriteable, NewRef, DeleteRef}
use Rattle.counting.specs.Counting.{counting}
use Rattle.counting.specs.Moved.{movable}
use Rattle.counting.specs.Sound.{sound}
use Rattle.counting.specs.declared.state.State.{State}

pub refs_counted : (s : State) → sound s ≡ true → s.present ≡ true → s.refs ≡ s.count
refs_counted s h p = eqb-true s.refs s.count (both_true (leb s.count limit.counter) (eqb s.refs s.count) (rw p at h)).1

pub movable_in : (s : State) (x : CountingStep) → sound s ≡ true → Accepted counting s x → movable s x ≡ true
movable_in s (WriteableToReadable t) h a = refl
movable_in s ReadableToWriteable h a = refl
movable_in s NewRef h a =
    let e : s.refs ≡ s.count = refs_counted s h a.0 in
    let l : s.count < limit.counter = ltb-true s.count limit.counter a.1.0 in
    lt-ltb s.refs limit.counter (omega arith)
movable_in s (DeleteRef t) h a =
    let e : s.refs ≡ s.count = refs_counted s h a.0 in
    let l : 0 < s.refs = ltb-true 0 s.refs a.1.0 in
    lt-ltb 0 s.count (omega arith)
