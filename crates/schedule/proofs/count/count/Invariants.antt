-- `schedule::count::count` meets its contract: each turn keeps what is left to count, and each way out is what the places from there on say. Assumes nothing.

use Rattle.schedule.proofs.CountLoop.{Underway}
use Rattle.schedule.proofs.count.count.Given as goal

abbrev pub invariant-loop-k : goal.invariant-loop-k
invariant-loop-k l = Underway l.kind l.file l.from l.at l.k
