-- `lock::state::image` meets its contract: nothing where the bytes do not fit, else the head and the cells behind it. Assumes nothing.
use borrow.Author.Rules.{rules}
use Rattle.lock.proofs.Writes.{image_short, image_laid}
use Rattle.lock.proofs.state.image.Goals as goal

pub returns-then-out-n : goal.returns-then-out-n
returns-then-out-n c = search (image_short, rules)

pub returns : goal.returns
returns c = search (image_laid, rules)
