-- `raw::lock_raw::put_lock` meets its contract: nothing where the bytes do not fit, else the head and the cells behind it. Assumes nothing.
use borrow.Author.Rules.{rules}
use Rattle.rows.proofs.Rows.{row_long}
use Rattle.raw.proofs.Writes.{lock_short, lock_laid}
use Rattle.raw.proofs.lock_raw.put_lock.Goals as goal

pub returns-then-raw-lt-LENGTH : goal.returns-then-raw-lt-LENGTH
returns-then-raw-lt-LENGTH c = search (lock_short, rules, row_long)

pub returns : goal.returns
returns c = search (lock_laid, rules, row_long)
