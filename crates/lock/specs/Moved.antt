-- The transitions on the head and on one cell, also on those that no sound state has. Assumes nothing.
use Rattle.std.specs.Prelude.{ℕ, true, ltb}
use Rattle.machine.specs.Move.{Moved, moving}
use Rattle.schedule.specs.Limits as limit
use Rattle.lock.specs.Lock.{exc_start_tests, exc_finish_tests, exc_release_tests, empty_tests, room_tests, pending_tests, guard_tests}
use Rattle.lock.specs.Lock.{exc_started, exc_checked, exc_finished, exc_released, shared_started, shared_finished, shared_released}
use Rattle.lock.specs.declared.state.Cell.{Cell}
use Rattle.lock.specs.declared.state.Head.{Head}

abbrev pub started_head : Head → Moved Head
started_head h = moving (exc_start_tests h) true (exc_started h) h

abbrev pub checked_head : Head → Cell → Moved Head
checked_head h c = moving (empty_tests c) (ltb h.cursor limit.counter) (exc_checked h) h

abbrev pub finished_head : Head → Moved Head
finished_head h = moving (exc_finish_tests h) true (exc_finished h) h

abbrev pub released_head : Head → ℕ → Moved Head
released_head h t = moving (exc_release_tests h) true (exc_released h t) h

abbrev pub started_cell : Cell → Moved Cell
started_cell c = moving (room_tests c) (ltb c.pending limit.counter) (shared_started c) c

abbrev pub finished_cell : Cell → Moved Cell
finished_cell c = moving (pending_tests c) (ltb c.guards limit.counter) (shared_finished c) c

abbrev pub released_cell : Head → Cell → ℕ → Moved Cell
released_cell h c t = moving (guard_tests h c t) (ltb 0 c.count) (shared_released c) c
