-- The machine and its source: all that specs/Refined.antt asks for; and every state that a history leads to from a fresh machine is sound. Assumes nothing.
use Prim.Native.Nat.{ℕ, ◌≤◌}
use Rattle.machine.specs.History.{Run}
use Rattle.machine.proofs.Runs.{always}
use Rattle.machine.proofs.Reasons.{Owed, complete, upholds}
use Rattle.schedule.specs.Limits as limit
use Rattle.lock.specs.Source as source
use Rattle.lock.specs.Source.{Transition}
use Rattle.schedule.specs.declared.steps.LockStep.{LockStep}
use Rattle.schedule.specs.declared.steps.LockStep.TheVariants.{ExcStart, ExcCheckCount, ExcFinish, ExcRelease, SharedStart, SharedFinish, SharedRelease}
use Rattle.lock.proofs.Inductive as source-own
use mathlib.Core.Path.{◌≡◌, refl}
use Rattle.lock.specs.Invariants.{Invariants}
use Rattle.lock.specs.Lock.{lock, fresh_state}
use Rattle.lock.specs.Refined.{label, Sound, dist_rw_lock, Refines}
use Rattle.lock.specs.Demand.{Hist}
use Rattle.lock.specs.declared.state.State.{State}
use Rattle.lock.proofs.Sounds.{sound_means, means_sound, abs_tells, fresh_initialize, fresh_new, fresh_means, fresh_sound}
use Rattle.lock.proofs.Kept.{accepted_sound}
use Rattle.lock.proofs.Lines.{goes, clear, tells}
use Rattle.lock.proofs.Posts.{accepted_moves, moves_one, accepted_logs, hands_one}

-- every transition of the source is some step's
onto : (y : Transition) → (x : LockStep) × (label x ≡ y)
onto source.exc_start = (ExcStart, refl)
onto source.exc_check_count = (ExcCheckCount, refl)
onto source.exc_finish = (ExcFinish, refl)
onto (source.exc_release t) = (ExcRelease t, refl)
onto (source.shared_start r) = (SharedStart r, refl)
onto (source.shared_finish r) = (SharedFinish r, refl)
onto (source.shared_release val) = (SharedRelease val.0 val.1, refl)

owed : Owed dist_rw_lock Invariants Sound
owed =
    record {
      onto = onto;
      inductive = record { kept = source-own.inductive; safe = source-own.safe };
      goes = λ y a i. goes a i y;
      clear = λ y a to i. clear a i y to;
      moves_one = λ y a p q i. moves_one y a p q;
      hands_one = λ y a es fs i. hands_one y a es fs;
      inv = λ s k. k.inv;
      tells = tells;
      moves = accepted_moves;
      logs = accepted_logs;
      good = accepted_sound;
      abs_tells = abs_tells;
    }

pub refines : Refines
refines =
    record {
      fresh_initialize = fresh_initialize;
      fresh_new = fresh_new;
      fresh_sound = fresh_sound;
      sound_means = sound_means;
      means_sound = means_sound;
      upholds = upholds dist_rw_lock Invariants Sound owed;
      initial = source-own.initialize_inductive;
      inductive = owed.inductive;
      complete = complete dist_rw_lock Invariants Sound owed;
      guards_stored = source-own.do_guard_holds;
    }

pub every_prefix_sound : (w t : ℕ) → 1 ≤ w → w ≤ limit.width → {h : Hist} {s : State} → Run lock (fresh_state w t) h s → Sound s
every_prefix_sound w t low high r =
    always lock (fresh_state w t) (λ h s. Sound s) (fresh_means w t low high) (λ h s x k a. accepted_sound s x k a) r
