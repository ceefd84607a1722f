-- `lines::hex::put_bytes` meets its contract: the digits of the bytes, or a hyphen where there are none. Assumes nothing.
use borrow.Author.Rules.{rules}
use Rattle.lines.proofs.Shows.{shown_laid, shown_none}
use Rattle.lines.proofs.hex.put_bytes.Goals as goal

pub returns-then-is_empty : goal.returns-then-is_empty
returns-then-is_empty c = search (rules, shown_none)

pub returns : goal.returns
returns c = search (rules, shown_laid)
