-- `flat::state::mask` meets its contract: the loop's invariant says that the mask holds the slots passed. Assumes nothing.
use Rattle.flat.proofs.Packing.{Packing}
use Rattle.flat.proofs.state.mask.Given as goal

abbrev pub invariant-loop-c : goal.invariant-loop-c
invariant-loop-c l = Packing l.fn.s.clients l.c-iterator.iter.rest.now l.m
