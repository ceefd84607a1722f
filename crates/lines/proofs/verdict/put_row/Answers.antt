-- `lines::verdict::put_row` meets its contract: the name, and the bytes behind it. Assumes nothing.
use borrow.Author.Rules.{rules}
use Rattle.lines.proofs.Written.{row_laid}
use Rattle.lines.proofs.verdict.put_row.Goals as goal

pub returns : goal.returns
returns c = search (rules, row_laid)
