-- Made-up histories, the newest step first, that the demand refuses: it is not met by just any history; and a made-up reason. Assumes nothing.
use Prim.Native.Nat.{ℕ}
use mathlib.Core.Path.{refl}
use mathlib.Core.Bool.{cond}
use mathlib.Core.Logic.{inl, inr}
use mathlib.Core.List.{[], ◌∷◌}
use mathlib.Core.Option.{some}
use native.Mathlib.Omega.{arith}
use lib.Dec.{eqb}
use Rattle.rows.proofs.Cases.{clash}
use Rattle.machine.specs.History.{Event}
use Rattle.machine.specs.Sourced.{Reason}
use Rattle.machine.proofs.Reasons.{first_one}
use Rattle.schedule.specs.declared.steps.CountingStep.{CountingStep}
use Rattle.schedule.specs.declared.steps.CountingStep.TheVariants.{WriteableToReadable, ReadableToWriteable, NewRef, DeleteRef}
use Rattle.counting.specs.Source.{CountingPermissions, readable_to_writeable}
use Rattle.counting.specs.Refined.{lines, counting_permissions}
use Rattle.counting.specs.Demand.{Demand}
use Rattle.counting.specs.declared.entry.Entry.{Entry}
use Rattle.counting.specs.declared.entry.Entry.TheVariants.{Withdrawn, Granted}

abbrev stores : ℕ → Event CountingStep Entry
stores t = record { did = WriteableToReadable t; wrote = [] }

abbrev withdraws : ℕ → Event CountingStep Entry
withdraws t = record { did = ReadableToWriteable; wrote = Withdrawn t ∷ [] }

abbrev hands_out : ℕ → Event CountingStep Entry
hands_out t = record { did = NewRef; wrote = Granted t ∷ [] }

abbrev gives_back : ℕ → Event CountingStep Entry
gives_back t = record { did = DeleteRef t; wrote = [] }

-- a reference is given back that was never handed out
pub never_handed_out : Demand (gives_back 7 ∷ stores 7 ∷ []) → ⊥
never_handed_out d = omega (arith, d.never_more 7)

-- it is given back twice
pub given_back_twice : Demand (gives_back 7 ∷ gives_back 7 ∷ hands_out 7 ∷ stores 7 ∷ []) → ⊥
given_back_twice d = omega (arith, d.never_more 7)

-- another one is given back
pub another_given_back : Demand (gives_back 8 ∷ hands_out 7 ∷ stores 7 ∷ []) → ⊥
another_given_back d = omega (arith, d.never_more 8)

-- two references of different values are held together
pub different_held : Demand (hands_out 8 ∷ stores 8 ∷ hands_out 7 ∷ stores 7 ∷ []) → ⊥
different_held d = omega (arith, d.held_equal 7 8 (omega arith) (omega arith))

-- a value is withdrawn while a reference to it is held
pub withdrawn_while_held : Demand (withdraws 7 ∷ hands_out 7 ∷ stores 7 ∷ []) → ⊥
withdrawn_while_held d = omega (arith, (d.withdrawn [] (hands_out 7 ∷ stores 7 ∷ []) (Withdrawn 7 ∷ []) refl).3 7)

-- so it is where the reference is given back afterwards
pub given_back_too_late : Demand (gives_back 7 ∷ withdraws 7 ∷ hands_out 7 ∷ stores 7 ∷ []) → ⊥
given_back_too_late d =
    omega (arith, (d.withdrawn (gives_back 7 ∷ []) (hands_out 7 ∷ stores 7 ∷ []) (Withdrawn 7 ∷ []) refl).3 7)

-- a withdrawal logs another value than the one stored
pub another_withdrawn : Demand (withdraws 8 ∷ stores 7 ∷ []) → ⊥
another_withdrawn d =
    let w = d.withdrawn [] (stores 7 ∷ []) (Withdrawn 8 ∷ []) refl in
    clash (cc)

-- a reference that is held carries a value that is no longer stored: another is
pub outlived_by_another : Demand (stores 8 ∷ hands_out 7 ∷ stores 7 ∷ []) → ⊥
outlived_by_another d = let e = d.held_stored 7 (omega arith) in clash (cc)

-- a new_ref hands out another value than the one stored
pub another_handed_out : Demand (hands_out 8 ∷ stores 7 ∷ []) → ⊥
another_handed_out d =
    let w = d.handed_out [] (stores 7 ∷ []) (Granted 8 ∷ []) refl in
    clash (cc)

-- a value is asked for while a reference to it is held: the reason is 16, and no other
abbrev held : CountingPermissions
held = record { stored = some 7; main_counter = some (1, 7); read_ref = λ u. cond (eqb u 7) 1 0 }

pub reason_16 : Reason counting_permissions held readable_to_writeable 16
reason_16 = inr (λ e. clash (cc), inl (refl, (1, 7, refl, λ e. omega arith)))

pub not_13 : Reason counting_permissions held readable_to_writeable 13 → ⊥
not_13 r = omega (arith, first_one (lines held readable_to_writeable) 13 16 r reason_16)
