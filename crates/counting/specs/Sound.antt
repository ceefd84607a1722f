-- When a state is sound: the test that the code makes. specs/Refined.antt says what it means. Assumes nothing.
use Rattle.std.specs.Prelude.{Bool, cond, ◌&&◌, eqb, leb}
use Rattle.schedule.specs.Limits as limit
use Rattle.counting.specs.declared.state.State.{State}

-- there: as many references as the counter says, and no more than its limit. Not there: every entry is unused, and zero
abbrev pub sound : State → Bool
sound s =
    cond s.present
    (leb s.count limit.counter && eqb s.refs s.count)
    (eqb s.t 0 && (eqb s.count 0 && eqb s.refs 0))
