-- What the counting machine has of its own for the laws of a run. Assumes nothing.
use native.Mathlib.Omega.{arith}
use Rattle.machine.proofs.Steps.{code_accepted}
use Rattle.schedule.specs.Carries.{Carries}
use Rattle.schedule.proofs.Languages.{counting_lawful}
use Rattle.counting.specs.Counting.{counting}
use Rattle.counting.specs.Running.{runner}
use Rattle.counting.proofs.Writes.{logs_short}
use Rattle.counting.proofs.Kept.{accepted_sound}

abbrev pub carries : Carries runner
carries =
    record {
      lawful = counting_lawful;
      short = logs_short;
      small = λ q. omega arith;
      kept = λ q x z k. accepted_sound q x k (code_accepted counting q x z);
    }
