-- The shift lock as the scope has it: a step's tests, the state after it, what it logs. Assumes nothing.
use Rattle.std.specs.Prelude.{ℕ, ◌+◌, ◌-◌, ◌≡◌, refl, Bool, true, false, cond, not, List, [], ◌∷◌, ◌++◌, eqb, ltb, get_or, set, replicate}
use Rattle.machine.specs.Check.{Check, need, rises}
use Rattle.machine.specs.Machine.{Machine}
use Rattle.machine.specs.Codes as code
use Rattle.schedule.specs.Limits as limit
use Rattle.schedule.specs.declared.steps.LockStep.{LockStep}
use Rattle.schedule.specs.declared.steps.LockStep.TheVariants.{ExcStart, ExcCheckCount, ExcFinish, ExcRelease, SharedStart, SharedFinish, SharedRelease}
use Rattle.lock.specs.declared.state.Cell.{Cell}
use Rattle.lock.specs.declared.state.Head.{Head}
use Rattle.lock.specs.declared.state.State.{State}
use Rattle.machine.specs.Made.{Fresh}
use Rattle.lock.specs.declared.entry.Entry.{Entry}
use Rattle.lock.specs.declared.entry.Entry.TheVariants.{Withdrawn, Granted}

-- ---------- fresh: all counts 0, unlocked, storing the initial record; bad parameters are 5 with a state of zeros

abbrev pub zero_cell : Cell
zero_cell = record { count = 0; pending = 0; guards = 0 }

abbrev pub empty_lock : ℕ → ℕ → Bool → State
empty_lock width t stored =
    record {
      head = record { t = t; width = width; cursor = 0; locked = false; stored = stored; pending = false; guard = false };
      cells = replicate limit.width zero_cell;
    }

abbrev pub fresh_state : ℕ → ℕ → State
fresh_state width t = empty_lock width t true

-- a machine that is made, and the code
abbrev pub fresh_of : ℕ → ℕ → Fresh State
fresh_of width t =
    cond (eqb width 0) (record { state = empty_lock 0 0 false; code = code.parameter })
    (cond (ltb limit.width width) (record { state = empty_lock 0 0 false; code = code.parameter })
    (record { state = fresh_state width t; code = code.accepted }))

-- ---------- the tests: those on the head, then those on the cell that the step looks at

abbrev pub cell : State → ℕ → Cell
cell s r = get_or s.cells r zero_cell

-- the writer's steps, on the head
abbrev pub exc_start_tests : Head → List Check
exc_start_tests h = need code.phase (not h.locked) ∷ []

abbrev pub exc_check_count_tests : Head → List Check
exc_check_count_tests h = need code.phase h.pending ∷ need code.cursor (ltb h.cursor h.width) ∷ []

abbrev pub exc_finish_tests : Head → List Check
exc_finish_tests h = need code.phase h.pending ∷ need code.cursor (eqb h.cursor h.width) ∷ []

abbrev pub exc_release_tests : Head → List Check
exc_release_tests h = need code.phase h.guard ∷ []

-- shared_start and shared_release ask for no more of the head: the lock test stands at shared_finish
abbrev pub inside_tests : Head → ℕ → List Check
inside_tests h r = need code.outside (ltb r h.width) ∷ []

abbrev pub shared_finish_tests : Head → ℕ → List Check
shared_finish_tests h r = need code.outside (ltb r h.width) ∷ need code.phase (not h.locked) ∷ []

-- exc_check_count, of the cell at the cursor
abbrev pub empty_tests : Cell → List Check
empty_tests c = need code.count (eqb c.count 0) ∷ []

-- shared_start, of its cell
abbrev pub room_tests : Cell → List Check
room_tests c = need code.full (ltb c.count limit.counter) ∷ []

-- shared_finish, of its cell
abbrev pub pending_tests : Cell → List Check
pending_tests c = need code.missing (ltb 0 c.pending) ∷ []

-- shared_release, of its cell, that very guard: one stands there, and guards carry the record in store
abbrev pub guard_tests : Head → Cell → ℕ → List Check
guard_tests h c t = need code.missing (ltb 0 c.guards) ∷ need code.missing h.stored ∷ need code.missing (eqb t h.t) ∷ []

abbrev pub head_tests : State → LockStep → List Check
head_tests s ExcStart = exc_start_tests s.head
head_tests s ExcCheckCount = exc_check_count_tests s.head
head_tests s ExcFinish = exc_finish_tests s.head
head_tests s (ExcRelease t) = exc_release_tests s.head
head_tests s (SharedStart r) = inside_tests s.head r
head_tests s (SharedFinish r) = shared_finish_tests s.head r
head_tests s (SharedRelease r t) = inside_tests s.head r

abbrev pub cell_tests : State → LockStep → List Check
cell_tests s ExcStart = []
cell_tests s ExcCheckCount = empty_tests (cell s s.head.cursor)
cell_tests s ExcFinish = []
cell_tests s (ExcRelease t) = []
cell_tests s (SharedStart r) = room_tests (cell s r)
cell_tests s (SharedFinish r) = pending_tests (cell s r)
cell_tests s (SharedRelease r t) = guard_tests s.head (cell s r) t

abbrev pub tests : State → LockStep → List Check
tests s x = head_tests s x ++ cell_tests s x

-- ---------- the state after, and what is logged

abbrev pub with_head : State → Head → State
with_head s h = record { head = h; cells = s.cells }

abbrev pub with_cell : State → ℕ → Cell → State
with_cell s r c = record { head = s.head; cells = set s.cells r c }

-- the head after each of the writer's steps
abbrev pub exc_started : Head → Head
exc_started h = record { t = h.t; width = h.width; cursor = 0; locked = true; stored = h.stored; pending = true; guard = h.guard }

abbrev pub exc_checked : Head → Head
exc_checked h = record { t = h.t; width = h.width; cursor = h.cursor + 1; locked = h.locked; stored = h.stored; pending = h.pending; guard = h.guard }

abbrev pub exc_finished : Head → Head
exc_finished h = record { t = 0; width = h.width; cursor = 0; locked = h.locked; stored = false; pending = false; guard = true }

abbrev pub exc_released : Head → ℕ → Head
exc_released h t = record { t = t; width = h.width; cursor = h.cursor; locked = false; stored = true; pending = h.pending; guard = false }

-- the cell after each of the readers' steps
abbrev pub shared_started : Cell → Cell
shared_started c = record { count = c.count + 1; pending = c.pending + 1; guards = c.guards }

abbrev pub shared_finished : Cell → Cell
shared_finished c = record { count = c.count; pending = c.pending - 1; guards = c.guards + 1 }

abbrev pub shared_released : Cell → Cell
shared_released c = record { count = c.count - 1; pending = c.pending; guards = c.guards - 1 }

abbrev pub next : State → LockStep → State
next s ExcStart = with_head s (exc_started s.head)
next s ExcCheckCount = with_head s (exc_checked s.head)
next s ExcFinish = with_head s (exc_finished s.head)
next s (ExcRelease t) = with_head s (exc_released s.head t)
next s (SharedStart r) = with_cell s r (shared_started (cell s r))
next s (SharedFinish r) = with_cell s r (shared_finished (cell s r))
next s (SharedRelease r t) = with_cell s r (shared_released (cell s r))

-- exc_finish logs the withdrawn record, shared_finish r and the record
abbrev pub logs : State → LockStep → List Entry
logs s ExcStart = []
logs s ExcCheckCount = []
logs s ExcFinish = Withdrawn s.head.t ∷ []
logs s (ExcRelease t) = []
logs s (SharedStart r) = []
logs s (SharedFinish r) = Granted r s.head.t ∷ []
logs s (SharedRelease r t) = []

pub rising : (s : State) (x : LockStep) → rises 1 (tests s x) ≡ true
rising s ExcStart = refl
rising s ExcCheckCount = refl
rising s ExcFinish = refl
rising s (ExcRelease t) = refl
rising s (SharedStart r) = refl
rising s (SharedFinish r) = refl
rising s (SharedRelease r t) = refl

abbrev pub lock : Machine
lock = record { State = State; Step = LockStep; Entry = Entry; tests = tests; next = next; logs = logs; rising = rising }
