-- `flag::state::image` meets its contract: its two pieces are laid down one after the other, or none is. Assumes nothing.
use borrow.Author.Rules.{rules}
use Rattle.flag.proofs.Writes.{image_short, image_laid}
use Rattle.flag.proofs.state.image.Goals as goal

pub returns-then-out-n : goal.returns-then-out-n
returns-then-out-n c = search (rules, image_short)

pub returns : goal.returns
returns c = search (rules, image_laid)
