-- `lines::verdict::put_lines` meets its contract: what is written lies in the buffer. Assumes nothing.
use borrow.Author.Rules.{rules}
use Rattle.lines.proofs.Written.{written_fits, written_taken}
use Rattle.lines.proofs.verdict.put_lines.Goals as goal

pub returns : goal.returns
returns c = search (rules, written_fits, written_taken)
