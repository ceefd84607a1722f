-- `flat_run::rest` meets its contract: bad parameters are answered as they are, and else the steps are replayed. Assumes nothing.
use Rattle.flat_run.proofs.Carried.{fresh_refused, fresh_leaves}
use Rattle.flat_run.proofs.rest.Goals as goal

pub returns-in-Ok : goal.returns-in-Ok
returns-in-Ok c = search fresh_leaves

pub returns-in-Err : goal.returns-in-Err
returns-in-Err c = search fresh_refused
