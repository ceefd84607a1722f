-- What the flag has of its own for the laws of a run. Assumes nothing.
use Rattle.machine.proofs.Steps.{code_accepted}
use Rattle.schedule.specs.Carries.{Carries}
use Rattle.schedule.proofs.Languages.{flag_lawful}
use Rattle.flag.specs.Flag.{flag}
use Rattle.flag.specs.Running.{runner}
use Rattle.flag.proofs.Writes.{logs_short, image_small}
use Rattle.flag.proofs.Kept.{accepted_sound}

abbrev pub carries : Carries runner
carries =
    record {
      lawful = flag_lawful;
      short = logs_short;
      small = image_small;
      kept = λ q x z i. accepted_sound q x i (code_accepted flag q x z);
    }
