-- `raw::flat_raw::clients_from` meets its contract: each entry is the one at its place. Assumes nothing.
use Prim.Native.Nat.{◌*◌}
use borrow.Author.Rules.{rules}
use Rattle.raw.specs.Raw.{client_at}
use Rattle.raw.proofs.Filling.{row_made}
use Rattle.raw.proofs.flat_raw.clients_from.Goals as goal

pub returns : goal.returns
returns c = row_made (λ i. client_at c.args.raw.now (16 * i)) _ _ (λ i y q k. search rules) _ _ (client_at c.args.raw.now 0) c.from_fn.ensures.items
