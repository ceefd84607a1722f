-- `lines::verdict::put_verdict` meets its contract: its four pieces are laid down one behind the other. Assumes nothing.
use borrow.Author.Rules.{rules}
use Rattle.lines.proofs.Written.{verdict_few, verdict_laid}
use Rattle.lines.proofs.verdict.put_verdict.Goals as goal

pub returns : goal.returns
returns c = record { laid = search (rules, verdict_laid); bounded = search (rules, verdict_few) }
