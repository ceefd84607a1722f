-- `flat::state::image` meets its contract: nothing where the bytes do not fit, else the clients, the combiner and the elements, one behind the other. Assumes nothing.
use borrow.Author.Rules.{rules}
use Rattle.rows.proofs.Rows.{row_long}
use Rattle.flat.proofs.Writes.{image_short, image_laid}
use Rattle.flat.proofs.state.image.Goals as goal

pub returns-then-out-clients : goal.returns-then-out-clients
returns-then-out-clients c = search (image_short, rules, row_long)

pub returns : goal.returns
returns c = search (image_laid, rules, row_long)
