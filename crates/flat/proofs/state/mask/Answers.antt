-- `flat::state::mask` meets its contract: the loop's invariant says that the mask holds the slots passed. Assumes nothing.
use borrow.Author.Rules.{rules}
use Rattle.rows.proofs.Rows.{row_long}
use Rattle.flat.proofs.Packing.{packing_begins, packing_more, packing_ends}
use Rattle.flat.proofs.state.mask.Goals as goal

pub loop-c-init : goal.loop-c-init
loop-c-init c = packing_begins _ _ (search rules) (search (rules, row_long))

pub loop-c-preserved : goal.loop-c-preserved
loop-c-preserved c = packing_more _ _ _ c.in-Some.c.now _ _ c.loop-c.invariant (search rules) c.from.ensures

pub returns : goal.returns
returns c = packing_ends _ _ _ c.loop-c.invariant (search rules)
