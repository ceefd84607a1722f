-- `schedule::count::count` meets its contract: each turn keeps what is left to count, and each way out is what the places from there on say. Assumes nothing.
use Rattle.schedule.proofs.CountLoop.{begins, ends_full, ends_surplus, ends, ends_broken, goes_on}
use Rattle.schedule.proofs.count.count.Goals as goal

pub loop-k-init : goal.loop-k-init
loop-k-init c = search begins

pub returns-in-Ok-None : goal.returns-in-Ok-None
returns-in-Ok-None c = let m = rw c.in-Ok-None.field-0-is at c.in-Ok-None.ensures c.args.kind c.row_of-row.ensures in search (ends, m)

pub returns-in-Err : goal.returns-in-Err
returns-in-Err c = let m = c.in-Err.ensures c.args.kind c.row_of-row.ensures in search (ends_broken, m)

pub loop-k-preserved : goal.loop-k-preserved
loop-k-preserved c = let m = rw c.in-Ok-Some.field-0-is at c.in-Ok-Some.ensures c.args.kind c.row_of-row.ensures in search (goes_on, m)

pub returns-then-at-file : goal.returns-then-at-file
returns-then-at-file c = search ends_surplus

pub returns-else-at-file : goal.returns-else-at-file
returns-else-at-file c = search ends_full
