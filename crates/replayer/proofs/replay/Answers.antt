-- `replayer::replay` meets its contract: a fault of the front is answered, and else the rest of the file. Assumes nothing.
use Rattle.replayer.proofs.Behind.{faulty_answered, open_answered}
use Rattle.replayer.proofs.replay.Goals as goal

pub returns-in-Err : goal.returns-in-Err
returns-in-Err c = search faulty_answered

pub returns-in-Ok : goal.returns-in-Ok
returns-in-Ok c = search open_answered
