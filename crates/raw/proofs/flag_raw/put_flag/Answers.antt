-- `raw::flag_raw::put_flag` meets its contract: nothing where the bytes do not fit, else three bytes and the places behind them. Assumes nothing.
use borrow.Author.Rules.{rules}
use Rattle.raw.proofs.Writes.{flag_short, flag_laid}
use Rattle.raw.proofs.flag_raw.put_flag.Goals as goal

pub returns-then-raw-lt-LENGTH : goal.returns-then-raw-lt-LENGTH
returns-then-raw-lt-LENGTH c = search (flag_short, rules)

pub returns : goal.returns
returns c = search (flag_laid, rules)
