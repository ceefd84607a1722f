-- `flat::state::idle` meets its contract: the rows of the default state hold idle clients and empty elements alone. Assumes nothing.
use borrow.Author.Rules.{rules}
use Rattle.flat.specs.Flat.{zero_client, zero_elem}
use Rattle.flat.proofs.Defaults.{row_of_defaults}
use Rattle.flat.proofs.state.idle.Goals as goal

pub returns : goal.returns
returns c =
    let clients = row_of_defaults _ zero_client (λ x p. search rules) _ c.default.result.clients c.default.ensures.0 in
    let elems = row_of_defaults _ zero_elem (λ x p. search rules) _ c.default.result.elems c.default.ensures.1.0 in
    cc
