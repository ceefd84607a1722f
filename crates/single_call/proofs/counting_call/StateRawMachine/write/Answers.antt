-- The state's bytes leave nothing of those that were there. Assumes nothing.
use Rattle.single_call.proofs.Over.{counting_over}
use Rattle.single_call.proofs.counting_call.StateRawMachine.write.Goals as goal

pub returns : goal.returns
returns c = search (counting_over)
