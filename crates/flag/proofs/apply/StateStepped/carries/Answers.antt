-- The laws of a run ask no more of the machine than it has. Assumes nothing.
use Rattle.flag.proofs.Carried.{carries}
use Rattle.flag.proofs.apply.StateStepped.carries.Goals as goal

pub returns : goal.returns
returns c = carries
