-- The laws of a run have of the machine what they ask for. Assumes nothing.
use Rattle.flat.proofs.Carried.{carries}
use Rattle.flat.proofs.apply.StateStepped.carries.Goals as goal

pub returns : goal.returns
returns c = carries
