-- The tables of cases hold of the machine as defined: one claim, proved by computing it. Assumes nothing.
use mathlib.Core.Path.{refl}
use Rattle.machine.specs.Replay.{replay}
use Rattle.lock.specs.Cases.{Tabled}

pub tabled : Tabled
unfolding replay
tabled = refl
