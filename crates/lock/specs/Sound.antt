-- When a state is sound: the test that the code makes, one walk over the cells. specs/Refined.antt says what it means. Assumes nothing.
use Rattle.std.specs.Prelude.{ℕ, ◌+◌, Bool, true, false, cond, not, ◌&&◌, eqb, ltb}
use Rattle.rows.specs.Walk.{every}
use Rattle.schedule.specs.Limits as limit
use Rattle.lock.specs.declared.state.Cell.{Cell}
use Rattle.lock.specs.declared.state.Head.{Head}
use Rattle.lock.specs.declared.state.State.{State}

-- the writer holds the guard, checks the cells, or is away
abbrev pub writer_sound : Head → Bool
writer_sound h =
    cond h.guard
    (not h.pending && (not h.stored && (eqb h.t 0 && (eqb h.cursor 0 && h.locked))))
    (h.stored
    && cond h.pending
    (not (ltb h.width h.cursor) && h.locked)
    (not h.locked && eqb h.cursor 0))

-- and the width is in its limits
abbrev pub head_sound : Head → Bool
head_sound h = not (eqb h.width 0) && (not (ltb limit.width h.width) && writer_sound h)

-- no reader guard may stand where the writer has checked, nor anywhere while it holds the guard
abbrev pub must_be_clear : Head → ℕ → Bool
must_be_clear h i = cond h.guard true (cond h.pending (ltb i h.cursor) false)

-- a cell in use counts its pending readers and its guards, no more than the counter's limit
abbrev pub used_sound : Head → ℕ → Cell → Bool
used_sound h i c = not (ltb limit.counter c.count) && (eqb c.count (c.pending + c.guards) && cond (must_be_clear h i) (eqb c.guards 0) true)

-- one that is not in use is zero
abbrev pub unused_sound : Cell → Bool
unused_sound c = eqb c.count 0 && (eqb c.pending 0 && eqb c.guards 0)

abbrev pub cell_sound : Head → ℕ → Cell → Bool
cell_sound h i c = cond (ltb i h.width) (used_sound h i c) (unused_sound c)

abbrev pub sound : State → Bool
sound s = head_sound s.head && every (cell_sound s.head) 0 s.cells
