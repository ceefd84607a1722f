-- `raw::flat_raw::put_flat` meets its contract: nothing where the bytes do not fit, else the clients, the elements and the combiner, one behind the other. Assumes nothing.
use borrow.Author.Rules.{rules}
use Rattle.rows.proofs.Rows.{row_long}
use Rattle.raw.proofs.Writes.{flat_short, flat_laid}
use Rattle.raw.proofs.flat_raw.put_flat.Goals as goal

pub returns-then-raw-lt-LENGTH : goal.returns-then-raw-lt-LENGTH
returns-then-raw-lt-LENGTH c = search (flat_short, rules, row_long)

pub returns : goal.returns
returns c = search (flat_laid, rules, row_long)
