-- `bridge::ladlecomet_replay` meets its contract: the replay, and its numbers told. Assumes nothing.
use Rattle.bridge.proofs.Calls.{no_room, replayed}
use Rattle.bridge.proofs.ladlecomet_replay.Goals as goal

pub returns-then-figures-lt-FIGURES : goal.returns-then-figures-lt-FIGURES
returns-then-figures-lt-FIGURES c = search no_room

pub returns : goal.returns
returns c = search replayed
