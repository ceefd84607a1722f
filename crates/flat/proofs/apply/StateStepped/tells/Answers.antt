-- The test of a state passes exactly those that a run may start from. Assumes nothing.
use borrow.Author.Rules.{rules}
use Rattle.rows.proofs.Rows.{row_long}
use Rattle.flat.proofs.Carried.{tells}
use Rattle.flat.proofs.apply.StateStepped.tells.Goals as goal

pub returns : goal.returns
returns c = tells c.args.self.now (search (rules, row_long)) (search (rules, row_long))
