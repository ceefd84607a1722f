-- The laws of a run hold of the shift lock. Assumes nothing.
use Rattle.lock.proofs.Carried.{carries}
use Rattle.lock.proofs.apply.StateStepped.carries.Goals as goal

pub returns : goal.returns
returns c = carries
