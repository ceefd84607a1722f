-- `raw::flat_raw::elems_from` meets its contract: each entry is the one at its place. Assumes nothing.
use Prim.Native.Nat.{◌+◌, ◌*◌}
use borrow.Author.Rules.{rules}
use Rattle.raw.specs.Raw.{elem_at}
use Rattle.raw.proofs.Filling.{row_made}
use Rattle.raw.proofs.flat_raw.elems_from.Goals as goal

pub returns : goal.returns
returns c = row_made (λ i. elem_at c.args.raw.now (256 + 5 * i)) _ _ (λ i y q k. search rules) _ _ (elem_at c.args.raw.now 0) c.from_fn.ensures.items
