-- The machine and its source: all that specs/Refined.antt asks for; and every state that a history leads to from a fresh machine is sound. Assumes nothing.
use Prim.Native.Nat.{ℕ, ◌≤◌}
use mathlib.Core.Bool.{Bool}
use Rattle.machine.specs.History.{Run}
use Rattle.machine.proofs.Runs.{always}
use Rattle.machine.proofs.Reasons.{Owed, complete, upholds}
use Rattle.schedule.specs.Limits as limit
use Rattle.flag.specs.Source as source
use Rattle.flag.specs.Source.{Transition}
use Rattle.schedule.specs.declared.steps.FlagStep.{FlagStep}
use Rattle.schedule.specs.declared.steps.FlagStep.TheVariants.{Begin, Move, Read}
use Rattle.flag.proofs.Inductive as source-own
use mathlib.Core.Path.{◌≡◌, refl}
use Rattle.flag.specs.Invariants.{FlagInv}
use Rattle.flag.specs.Flag.{flag, fresh_state}
use Rattle.flag.specs.Refined.{Sound, label, helping, Refines}
use Rattle.flag.specs.Demand.{Hist}
use Rattle.flag.specs.declared.state.State.{State}
use Rattle.flag.proofs.Loop.{table, numbered}
use Rattle.flag.proofs.Sounds.{sound_means, means_sound, abs_tells, fresh_new, fresh_means, fresh_sound}
use Rattle.flag.proofs.Kept.{accepted_sound}
use Rattle.flag.proofs.Lines.{goes, clear, tells}
use Rattle.flag.proofs.Posts.{accepted_moves, moves_one, accepted_logs, hands_one}
use Rattle.flag.proofs.Ends.{ends}
use Rattle.flag.proofs.Wanders.{unbounded}

-- every transition of the source is some step's
onto : (y : Transition) → (x : FlagStep) × (label x ≡ y)
onto (source.begin k) = (Begin k, refl)
onto (source.move k) = (Move k, refl)
onto (source.read k) = (Read k, refl)

owed : Owed helping FlagInv Sound
owed =
    record {
      onto = onto;
      inductive = record { kept = source-own.inductive; safe = source-own.safe };
      goes = λ y a i. goes y a;
      clear = λ y a to i v b. clear y a to v;
      moves_one = λ y a p q i. moves_one y a p q;
      hands_one = hands_one;
      inv = λ s i. i.inv;
      tells = tells;
      moves = accepted_moves;
      logs = accepted_logs;
      good = accepted_sound;
      abs_tells = abs_tells;
    }

pub refines : Refines
refines =
    record {
      fresh_new = fresh_new;
      fresh_sound = fresh_sound;
      sound_means = sound_means;
      means_sound = means_sound;
      upholds = upholds helping FlagInv Sound owed;
      initial = source-own.new_inductive;
      inductive = owed.inductive;
      complete = complete helping FlagInv Sound owed;
      table = table;
      numbered = numbered;
      ends = ends;
      unbounded = unbounded;
    }

pub every_prefix_sound : (n : ℕ) (v : Bool) → 1 ≤ n → n ≤ limit.threads → {h : Hist} {s : State} → Run flag (fresh_state n v) h s → Sound s
every_prefix_sound n v any few r = always flag (fresh_state n v) (λ h s. Sound s) (fresh_means n v any few) (λ h s x i a. accepted_sound s x i a) r
