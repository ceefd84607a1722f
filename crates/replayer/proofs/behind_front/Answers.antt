-- `replayer::behind_front` meets its contract: each kind has its own loop. Assumes nothing.
use Rattle.replayer.proofs.Behind.{as_flat, as_lock, as_counting, as_flag}
use Rattle.replayer.proofs.behind_front.Goals as goal

pub returns-in-Flat : goal.returns-in-Flat
returns-in-Flat c = search as_flat

pub returns-in-Lock : goal.returns-in-Lock
returns-in-Lock c = search as_lock

pub returns-in-Counting : goal.returns-in-Counting
returns-in-Counting c = search as_counting

pub returns-in-Flag : goal.returns-in-Flag
returns-in-Flag c = search as_flag
