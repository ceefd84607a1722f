-- The machine and its source: all that specs/Refined.antt asks for; and every state that a history leads to from a fresh machine is sound. Assumes nothing.
use Prim.Native.Nat.{ℕ, ◌≤◌}
use Rattle.machine.specs.History.{Run}
use Rattle.machine.proofs.Runs.{always}
use Rattle.machine.proofs.Reasons.{Owed, complete, upholds}
use Rattle.schedule.specs.Limits as limit
use Rattle.flat.specs.Source as source
use Rattle.flat.specs.Source.{Transition}
use Rattle.schedule.specs.declared.steps.FlatStep.{FlatStep}
use Rattle.schedule.specs.declared.steps.FlatStep.TheVariants.{ClientSend, ClientRecv, CombinerRecv, CombinerSkip, CombinerGoToResponding, CombinerSend, CombinerSendSkip, CombinerGoToCollecting}
use Rattle.flat.proofs.Inductive as source-own
use mathlib.Core.Path.{◌≡◌, refl}
use Rattle.flat.specs.Invariants.{Invariants}
use Rattle.flat.specs.Flat.{flat, fresh_state}
use Rattle.flat.specs.Refined.{Sound, label, flat_combine, Refines}
use Rattle.flat.specs.Demand.{Hist}
use Rattle.flat.specs.declared.state.State.{State}
use Rattle.flat.proofs.Sounds.{sound_means, means_sound, fresh_initialize, fresh_means, fresh_sound}
use Rattle.flat.proofs.Kept.{accepted_sound}
use Rattle.flat.proofs.Lines.{goes, clear, tells}
use Rattle.flat.proofs.Told.{abs_tells}
use Rattle.flat.proofs.Posts.{accepted_moves, moves_one, accepted_logs, hands_one}

-- every transition of the source is some step's
onto : (y : Transition) → (x : FlatStep) × (label x ≡ y)
onto (source.client_send j request) = (ClientSend j request.rid request.req, refl)
onto (source.client_recv j) = (ClientRecv j, refl)
onto source.combiner_recv = (CombinerRecv, refl)
onto source.combiner_skip = (CombinerSkip, refl)
onto source.combiner_go_to_responding = (CombinerGoToResponding, refl)
onto (source.combiner_send response) = (CombinerSend response.rid response.resp, refl)
onto source.combiner_send_skip = (CombinerSendSkip, refl)
onto source.combiner_go_to_collecting = (CombinerGoToCollecting, refl)

owed : Owed flat_combine Invariants Sound
owed =
    record {
      onto = onto;
      inductive = record { kept = source-own.inductive; safe = source-own.safe };
      goes = goes;
      clear = λ y a to i v b. clear y a to v;
      moves_one = λ y a p q i v. moves_one y a p q (source-own.safe y a p i v) v;
      hands_one = λ y a es fs i. hands_one y a es fs;
      inv = λ s h. h.inv;
      tells = tells;
      moves = accepted_moves;
      logs = accepted_logs;
      good = accepted_sound;
      abs_tells = abs_tells;
    }

pub refines : Refines
refines =
    record {
      fresh_initialize = λ n b. fresh_initialize n;
      fresh_sound = fresh_sound;
      sound_means = sound_means;
      means_sound = means_sound;
      upholds = upholds flat_combine Invariants Sound owed;
      initial = source-own.initialize_inductive;
      inductive = owed.inductive;
      complete = complete flat_combine Invariants Sound owed;
    }

pub every_prefix_sound : (n : ℕ) → n ≤ limit.clients → {h : Hist} {s : State} → Run flat (fresh_state n) h s → Sound s
every_prefix_sound n b r =
    always flat (fresh_state n) (λ h s. Sound s) (fresh_means n b) (λ h s x i a. accepted_sound s x i a) r
