-- What the shift lock has of its own for the laws of a run, and that its test passes just the sound states. Assumes nothing.
use mathlib.Core.Path.{◌≡◌}
use lib.ListN.{length}
use Rattle.machine.proofs.Steps.{code_accepted}
use Rattle.schedule.specs.Limits as limit
use Rattle.schedule.specs.Carries.{Carries, Tells}
use Rattle.schedule.proofs.Languages.{lock_lawful}
use Rattle.lock.specs.Lock.{lock}
use Rattle.lock.specs.Sound.{sound}
use Rattle.lock.specs.Running.{runner}
use Rattle.lock.specs.declared.state.State.{State}
use Rattle.lock.proofs.Writes.{logs_short, image_small}
use Rattle.lock.proofs.Sounds.{means_sound, sound_means}
use Rattle.lock.proofs.Kept.{accepted_sound}

abbrev pub carries : Carries runner
carries =
    record {
      lawful = lock_lawful;
      short = logs_short;
      small = image_small;
      kept = λ q x z k. accepted_sound q x k (code_accepted lock q x z);
    }

pub tells : (s : State) → length s.cells ≡ limit.width → Tells runner sound s
tells s whole = record { means = sound_means s whole; holds = means_sound }
