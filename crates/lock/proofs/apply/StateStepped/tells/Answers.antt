-- The test passes just the sound states. Assumes nothing.
use borrow.Author.Rules.{rules}
use Rattle.rows.proofs.Rows.{row_long}
use Rattle.lock.proofs.Carried.{tells}
use Rattle.lock.proofs.apply.StateStepped.tells.Goals as goal

pub returns : goal.returns
returns c = tells c.args.self.now (search (rules, row_long))
