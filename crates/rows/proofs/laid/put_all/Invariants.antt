-- The loop's invariant: what is left of the row, laid down where the loop has come, makes the whole. Assumes nothing.
use Rattle.rows.proofs.Rowed.{Ahead}
use Rattle.rows.proofs.laid.put_all.Given as goal

abbrev pub invariant-loop-x : goal.invariant-loop-x
invariant-loop-x g l = Ahead g.L.Layout.bytes g.L.Layout.LONG g.met.L.Layout.even l.row l.initial.out l.at l.out l.x-index l.p
