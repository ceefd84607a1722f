-- `lines::decimal::put_decimal` meets its contract: all the digits of the number, or none where they do not fit. Assumes nothing.
use borrow.Author.Rules.{rules}
use Rattle.lines.proofs.Spelling.{decimal_short, decimal_far, decimal_laid}
use Rattle.lines.proofs.decimal.put_decimal.Goals.{then-out-k-via-then-out-k, then-out-k-via-else-out-k+then-out-k-2}
use Rattle.lines.proofs.decimal.put_decimal.Goals as goal

pub returns-then-out-k : goal.returns-then-out-k
returns-then-out-k c =
    elim c.then-out-k.branch [
      | then-out-k-via-then-out-k w ↦ search (rules, decimal_short)
      | then-out-k-via-else-out-k+then-out-k-2 w ↦ search (rules, decimal_far)
    ]

pub returns : goal.returns
returns c = search (rules, decimal_laid)
