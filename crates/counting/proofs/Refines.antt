-- The machine and its source: all that specs/Refined.antt asks for; and every state that a history leads to from a fresh machine is sound. Assumes nothing.
use Rattle.machine.specs.History.{Run}
use Rattle.machine.proofs.Runs.{always}
use Rattle.machine.proofs.Reasons.{Owed, complete, upholds}
use Rattle.counting.specs.Source as source
use Rattle.counting.specs.Source.{Transition}
use Rattle.schedule.specs.declared.steps.CountingStep.{CountingStep}
use Rattle.schedule.specs.declared.steps.CountingStep.TheVariants.{WriteableToReadable, ReadableToWriteable, NewRef, DeleteRef}
use Rattle.counting.proofs.Inductive as source-own
use mathlib.Core.Path.{◌≡◌, refl}
use Rattle.counting.specs.Invariants.{main_inv}
use Rattle.counting.specs.Counting.{counting, fresh_state}
use Rattle.counting.specs.Refined.{label, Sound, counting_permissions, Refines}
use Rattle.counting.specs.Demand.{Hist}
use Rattle.counting.specs.declared.state.State.{State}
use Rattle.counting.proofs.Sounds.{sound_means, means_sound, abs_tells, fresh_new, fresh_means, fresh_sound}
use Rattle.counting.proofs.Kept.{accepted_sound}
use Rattle.counting.proofs.Lines.{goes, clear, tells}
use Rattle.counting.proofs.Posts.{accepted_moves, moves_one, accepted_logs, hands_one}

-- every transition of the source is some step's
onto : (y : Transition) → (x : CountingStep) × (label x ≡ y)
onto (source.writeable_to_readable t) = (WriteableToReadable t, refl)
onto source.readable_to_writeable = (ReadableToWriteable, refl)
onto source.new_ref = (NewRef, refl)
onto (source.delete_ref t) = (DeleteRef t, refl)

owed : Owed counting_permissions main_inv Sound
owed =
    record {
      onto = onto;
      inductive = record { kept = source-own.inductive; safe = source-own.safe };
      goes = λ y a i. goes y a;
      clear = λ y a to i. clear y a to;
      moves_one = λ y a p q i. moves_one y a p q;
      hands_one = λ y a es fs i. hands_one y a es fs;
      inv = λ s k. k.inv;
      tells = tells;
      moves = accepted_moves;
      logs = accepted_logs;
      good = accepted_sound;
      abs_tells = abs_tells;
    }

pub refines : Refines
refines =
    record {
      fresh_new = fresh_new;
      fresh_sound = fresh_sound;
      sound_means = sound_means;
      means_sound = means_sound;
      upholds = upholds counting_permissions main_inv Sound owed;
      initial = source-own.new_inductive;
      inductive = owed.inductive;
      complete = complete counting_permissions main_inv Sound owed;
      compare_refs = source-own.compare_refs;
      compare_ref_and_counter = source-own.compare_ref_and_counter;
      read_ref_guards = source-own.read_ref_guards;
      counter_guards = source-own.counter_guards;
    }

pub every_prefix_sound : {h : Hist} {s : State} → Run counting fresh_state h s → Sound s
every_prefix_sound r = always counting fresh_state (λ h s. Sound s) fresh_means (λ h s x k a. accepted_sound s x k a) r
