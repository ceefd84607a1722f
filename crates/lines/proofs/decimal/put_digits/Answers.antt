-- `lines::decimal::put_digits` meets its contract: the loop's invariant says that the digits left, stored, end as all of them. Assumes nothing.
use borrow.Author.Rules.{rules}
use Rattle.lines.proofs.Spelling.{spelling_begins, spelling_more, spelling_ends}
use Rattle.lines.proofs.decimal.put_digits.Goals as goal

pub loop-i-init : goal.loop-i-init
loop-i-init c = search (rules, spelling_begins)

pub loop-i-preserved : goal.loop-i-preserved
loop-i-preserved c = search spelling_more

pub returns : goal.returns
returns c = search spelling_ends
