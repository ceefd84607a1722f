-- What the flat combiner has of its own for the laws of a run. Assumes nothing.
use mathlib.Core.Path.{◌≡◌}
use lib.ListN.{length}
use Rattle.machine.proofs.Steps.{code_accepted}
use Rattle.schedule.specs.Limits as limit
use Rattle.schedule.specs.Carries.{Carries, Tells}
use Rattle.schedule.proofs.Languages.{flat_lawful}
use Rattle.flat.specs.Flat.{flat}
use Rattle.flat.specs.Running.{runner}
use Rattle.flat.specs.Sound.{sound}
use Rattle.flat.specs.declared.state.State.{State}
use Rattle.flat.proofs.Writes.{logs_short, image_small}
use Rattle.flat.proofs.Sounds.{sound_means, means_sound}
use Rattle.flat.proofs.Kept.{accepted_sound}

pub carries : Carries runner
carries =
    record {
      lawful = flat_lawful;
      short = logs_short;
      small = image_small;
      kept = λ q x z k. accepted_sound q x k (code_accepted flat q x z);
    }

-- a state that code holds has whole rows
pub tells : (s : State) → length s.clients ≡ limit.clients → length s.elems ≡ limit.clients → Tells runner sound s
tells s cs es = record { means = sound_means s cs es; holds = means_sound }
