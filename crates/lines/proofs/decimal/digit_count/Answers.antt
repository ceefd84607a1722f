-- `lines::decimal::digit_count` meets its contract: by the number's logarithm. Assumes nothing.
use borrow.Author.Rules.{rules}
use Rattle.lines.proofs.DigitCounts.{count_by_log}
use Rattle.lines.proofs.decimal.digit_count.Goals as goal

pub returns-clause-value : goal.returns-clause-value
returns-clause-value c = search (rules, count_by_log)
