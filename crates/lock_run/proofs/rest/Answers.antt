-- `lock_run::rest` meets its contract: bad parameters are answered as they are, and else the file is replayed from the lock that is made. Assumes nothing.
use Rattle.lock_run.proofs.Carried.{fresh_leaves}
use Rattle.lock_run.proofs.rest.Goals as goal

pub returns-in-Ok : goal.returns-in-Ok
returns-in-Ok c = search fresh_leaves
