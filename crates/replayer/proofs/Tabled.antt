-- The bench cases P1 to P12 hold of the definition: one claim over their table, proved by computing it. Assumes nothing.
use mathlib.Core.Path.{refl}
use Rattle.rows.specs.Bytes.{bytes_at}
use Rattle.machine.specs.Replay.{replay}
use Rattle.schedule.specs.Front.{opened_of}
use Rattle.schedule.specs.Reading.{measured_at, places_from}
use Rattle.schedule.specs.Schedule.{decode}
use Rattle.schedule.specs.Language.{step_at}
use Rattle.schedule.specs.Widths.{widths, widths_of}
use Rattle.replayer.specs.Replay.{replay_of}
use Rattle.replayer.specs.Cases.{Tabled}

pub tabled : Tabled
unfolding replay_of decode opened_of places_from measured_at widths widths_of step_at bytes_at replay
tabled = refl
