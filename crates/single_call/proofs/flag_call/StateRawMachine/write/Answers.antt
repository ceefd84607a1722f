-- The state's bytes leave nothing of those that were there. Assumes nothing.
use borrow.Author.Rules.{rules}
use Rattle.single_call.proofs.Over.{flag_over}
use Rattle.single_call.proofs.flag_call.StateRawMachine.write.Goals as goal

pub returns : goal.returns
returns c = search (flag_over, rules)
