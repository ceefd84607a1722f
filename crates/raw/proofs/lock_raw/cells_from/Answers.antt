-- `raw::lock_raw::cells_from` meets its contract: each entry is the one at its place. Assumes nothing.
use Prim.Native.Nat.{◌+◌, ◌*◌}
use borrow.Author.Rules.{rules}
use Rattle.raw.specs.Raw.{cell_at}
use Rattle.raw.proofs.Filling.{row_made}
use Rattle.raw.proofs.lock_raw.cells_from.Goals as goal

pub returns : goal.returns
returns c = row_made (λ i. cell_at c.args.raw.now (10 + 3 * i)) _ _ (λ i y q k. search rules) _ _ (cell_at c.args.raw.now 0) c.from_fn.ensures.items
