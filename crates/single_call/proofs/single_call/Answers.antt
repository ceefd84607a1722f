-- `single_call::single_call` meets its contract where no kind has the byte; where one does, its own call does. Assumes nothing.
use Rattle.single_call.proofs.Choosing.{no_kind}
use Rattle.single_call.proofs.single_call.Goals as goal

pub returns-in-Err : goal.returns-in-Err
returns-in-Err c = no_kind _ c.in-Err.ensures _ _ _
