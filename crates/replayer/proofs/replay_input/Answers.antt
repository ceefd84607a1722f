-- `replayer::replay_input` meets its contract: an input over the largest file is refused unread. Assumes nothing.
use Rattle.replayer.proofs.Behind.{too_large, as_file}
use Rattle.replayer.proofs.replay_input.Goals as goal

pub returns-then-input-gt-LARGEST : goal.returns-then-input-gt-LARGEST
returns-then-input-gt-LARGEST c = search too_large

pub returns : goal.returns
returns c = search as_file
