-- The state's bytes leave nothing of those that were there. Assumes nothing.
use borrow.Author.Rules.{rules}
use Rattle.rows.proofs.Rows.{row_long}
use Rattle.single_call.proofs.Over.{flat_over}
use Rattle.single_call.proofs.flat_call.StateRawMachine.write.Goals as goal

pub returns : goal.returns
returns c = search (flat_over, rules, row_long)
