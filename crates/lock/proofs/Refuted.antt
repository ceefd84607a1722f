-- Made-up histories, the newest step first, that the demand refuses: it is not met by just any history. The lock has two cells and stores 7 at first. Assumes nothing.
use Prim.Native.Nat.{ℕ}
use mathlib.Core.Path.{refl}
use mathlib.Core.List.{[], ◌∷◌}
use native.Mathlib.Omega.{arith}
use Rattle.rows.proofs.Cases.{clash}
use Rattle.machine.specs.History.{Event}
use Rattle.schedule.specs.declared.steps.LockStep.{LockStep}
use Rattle.schedule.specs.declared.steps.LockStep.TheVariants.{ExcStart, ExcCheckCount, ExcFinish, ExcRelease, SharedFinish, SharedRelease}
use Rattle.lock.specs.Demand.{Demand}
use Rattle.lock.specs.declared.entry.Entry.{Entry}
use Rattle.lock.specs.declared.entry.Entry.TheVariants.{Withdrawn, Granted}

-- the writer takes the guard, and the record with it; gives it back, and t is in force
abbrev takes : ℕ → Event LockStep Entry
takes t = record { did = ExcFinish; wrote = Withdrawn t ∷ [] }

abbrev returns : ℕ → Event LockStep Entry
returns t = record { did = ExcRelease t; wrote = [] }

-- a reader gets a guard at r that carries t; gives it back
abbrev hands_out : ℕ → ℕ → Event LockStep Entry
hands_out r t = record { did = SharedFinish r; wrote = Granted r t ∷ [] }

abbrev gives_back : ℕ → ℕ → Event LockStep Entry
gives_back r t = record { did = SharedRelease r t; wrote = [] }

-- ---------- a writer guard beside a reader guard

pub taken_beside_reader : Demand 2 7 (takes 7 ∷ hands_out 0 7 ∷ []) → ⊥
taken_beside_reader d = (d.guards [] _ refl).apart (omega arith) 0 7 (omega arith)

pub handed_out_beside_writer : Demand 2 7 (hands_out 0 7 ∷ takes 7 ∷ []) → ⊥
handed_out_beside_writer d = (d.guards [] _ refl).apart (omega arith) 0 7 (omega arith)

-- one of two readers is gone, and the other is not
pub one_reader_left : Demand 2 7 (takes 7 ∷ gives_back 0 7 ∷ hands_out 1 7 ∷ hands_out 0 7 ∷ []) → ⊥
one_reader_left d = (d.guards [] _ refl).apart (omega arith) 1 7 (omega arith)

-- ---------- a reader guard that carries the record of a closed shift

-- it was handed out before the shift closed, or after
pub outlives_its_shift : Demand 2 7 (returns 8 ∷ takes 7 ∷ hands_out 0 7 ∷ []) → ⊥
outlives_its_shift d = omega (arith, (d.guards [] _ refl).current 0 7 (omega arith))

pub handed_out_too_late : Demand 2 7 (hands_out 0 7 ∷ returns 8 ∷ takes 7 ∷ []) → ⊥
handed_out_too_late d = omega (arith, (d.guards [] _ refl).current 0 7 (omega arith))

-- no shift closed yet, and the record is not the initial one
pub another_handed_out : Demand 2 7 (hands_out 0 8 ∷ []) → ⊥
another_handed_out d = omega (arith, (d.guards [] _ refl).current 0 8 (omega arith))

-- ---------- two writers

pub two_writers : Demand 2 7 (takes 7 ∷ takes 7 ∷ []) → ⊥
two_writers d = omega (arith, (d.guards [] _ refl).one_writer)

-- a writer gives back what it did not take, or twice
pub never_taken : Demand 2 7 (returns 8 ∷ []) → ⊥
never_taken d = omega (arith, (d.guards [] _ refl).writers_exact)

pub returned_twice : Demand 2 7 (returns 9 ∷ returns 8 ∷ takes 7 ∷ []) → ⊥
returned_twice d = omega (arith, (d.guards [] _ refl).writers_exact)

-- a writer that does not log what it withdraws has taken nothing that it could give back
pub taken_unlogged : Demand 2 7 (returns 8 ∷ record { did = ExcFinish; wrote = [] } ∷ []) → ⊥
taken_unlogged d = omega (arith, (d.guards [] _ refl).writers_exact)

-- ---------- a reader guard given back

pub given_back_twice : Demand 2 7 (gives_back 0 7 ∷ gives_back 0 7 ∷ hands_out 0 7 ∷ []) → ⊥
given_back_twice d = omega (arith, (d.guards [] _ refl).readers_exact 0 7)

pub never_handed_out : Demand 2 7 (gives_back 0 7 ∷ []) → ⊥
never_handed_out d = omega (arith, (d.guards [] _ refl).readers_exact 0 7)

-- it carries another record than the one handed out, or comes from another cell
pub another_given_back : Demand 2 7 (gives_back 0 8 ∷ hands_out 0 7 ∷ []) → ⊥
another_given_back d = omega (arith, (d.guards [] _ refl).readers_exact 0 8)

pub given_back_elsewhere : Demand 2 7 (gives_back 1 7 ∷ hands_out 0 7 ∷ []) → ⊥
given_back_elsewhere d = omega (arith, (d.guards [] _ refl).readers_exact 1 7)

-- ---------- what a step logs, and where it stands in the history

-- a record is withdrawn that never was in force
pub another_withdrawn : Demand 2 7 (takes 9 ∷ []) → ⊥
another_withdrawn d = clash (cc (d.steps [] _ _ refl).1.withdrawn)

-- a writer that logs nothing, beside a reader
pub unlogged_beside_reader : Demand 2 7 (record { did = ExcFinish; wrote = [] } ∷ hands_out 0 7 ∷ []) → ⊥
unlogged_beside_reader d = clash (cc (d.steps [] _ _ refl).1.withdrawn)

-- a guard outlives a handover from a record to the same one
pub outlives_a_handover : Demand 2 7 (returns 7 ∷ takes 7 ∷ hands_out 0 7 ∷ []) → ⊥
outlives_a_handover d = omega (arith, (d.steps (returns 7 ∷ []) (takes 7) (hands_out 0 7 ∷ []) refl).1.no_reader 0 7)

-- a reader gets a guard and logs nothing; a guard is logged by another step
pub granted_unlogged : Demand 2 7 (record { did = SharedFinish 0; wrote = [] } ∷ []) → ⊥
granted_unlogged d = clash (cc (d.steps [] _ _ refl).1.granted)

pub granted_elsewhere : Demand 2 7 (record { did = ExcStart; wrote = Granted 0 7 ∷ [] } ∷ []) → ⊥
granted_elsewhere d = clash (cc (d.steps [] _ _ refl).1)

-- ---------- a step that could not come there

-- the guard is taken after a walk over one of two cells; a reader that was not announced gets a guard
pub half_walked : Demand 2 7 (takes 7 ∷ record { did = ExcCheckCount; wrote = [] } ∷ record { did = ExcStart; wrote = [] } ∷ []) → ⊥
half_walked d = omega (arith, (d.steps [] (takes 7) (record { did = ExcCheckCount; wrote = [] } ∷ record { did = ExcStart; wrote = [] } ∷ []) refl).0.1)

pub unannounced : Demand 2 7 (hands_out 0 7 ∷ []) → ⊥
unannounced d = omega (arith, (d.steps [] (hands_out 0 7) [] refl).0.2)
