-- Small cases of each step, written from the scope ("Codes", "Shift lock", "Log and image") and not from specs/Lock.antt: for each step some that
-- are accepted, and for each of its tests one that this test refuses. Proved by one claim, in proofs/Tabled.antt. Assumes nothing.
use Rattle.std.specs.Prelude.{ℕ, ◌+◌, ◌-◌, ◌≡◌, true, false, ◌&&◌, List, [], ◌∷◌, ◌++◌, length, replicate}
use Rattle.machine.specs.Table.{Case, runs, does, refuses, refuses_unsound, Start, starts, all_right, all_wrong, all_started, none_started}
use Rattle.schedule.specs.Limits as limit
use Rattle.schedule.specs.declared.steps.LockStep.TheVariants.{ExcStart, ExcCheckCount, ExcFinish, ExcRelease, SharedStart, SharedFinish, SharedRelease}
use Rattle.lock.specs.Lock.{lock, zero_cell, fresh_of}
use Rattle.lock.specs.Sound.{sound}
use Rattle.lock.specs.Image.{image_bytes, entry_bytes}
use Rattle.lock.specs.declared.state.Cell.{Cell}
use Rattle.lock.specs.declared.state.State.{State}

-- ---------- the states

-- a cell that p readers wait at, and g with a guard
abbrev readers : ℕ → ℕ → Cell
readers p g = record { count = p + g; pending = p; guards = g }

-- the cells given, and behind them such as are zero
abbrev row : List Cell → List Cell
row cs = cs ++ replicate (limit.width - length cs) zero_cell

-- the writer is away, and t in store
abbrev away : ℕ → ℕ → List Cell → State
away width t cs =
    record {
      head = record { t = t; width = width; cursor = 0; locked = false; stored = true; pending = false; guard = false };
      cells = row cs;
    }

-- it checks the cells, and is at c
abbrev checking : ℕ → ℕ → ℕ → List Cell → State
checking width t c cs =
    record {
      head = record { t = t; width = width; cursor = c; locked = true; stored = true; pending = true; guard = false };
      cells = row cs;
    }

-- it holds the guard
abbrev holding : ℕ → List Cell → State
holding width cs =
    record {
      head = record { t = 0; width = width; cursor = 0; locked = true; stored = false; pending = false; guard = true };
      cells = row cs;
    }

-- nothing in store, and no writer: no sound state, in which only this is amiss with a reader's guard that carries 0
abbrev storeless : ℕ → List Cell → State
storeless width cs =
    record {
      head = record { t = 0; width = width; cursor = 0; locked = false; stored = false; pending = false; guard = false };
      cells = row cs;
    }

-- ---------- the table. An image: locked; storage present, t; cursor present, cursor; writer guard; per cell count, pending, guards

-- a cell that nobody is at
abbrev nobody : List ℕ
nobody = 0 ∷ 0 ∷ 0 ∷ []

abbrev zeros : ℕ → List ℕ
zeros n = replicate n 0

abbrev pub exc_cases : List (Case lock)
exc_cases =
    -- exc_start locks, with the cursor at 0, whoever is at the cells; it needs unlocked (12)
    does (away 1 5 []) ExcStart (1 ∷ 1 ∷ 0 ∷ 0 ∷ 0 ∷ 5 ∷ 1 ∷ 0 ∷ 0 ∷ nobody) []
    ∷ does (away 2 16909060 (readers 1 0 ∷ readers 0 3 ∷ [])) ExcStart (1 ∷ 1 ∷ 1 ∷ 2 ∷ 3 ∷ 4 ∷ 1 ∷ 0 ∷ 0 ∷ 1 ∷ 1 ∷ 0 ∷ 3 ∷ 0 ∷ 3 ∷ []) []
    ∷ refuses (checking 1 5 0 []) ExcStart 12 (1 ∷ 1 ∷ 0 ∷ 0 ∷ 0 ∷ 5 ∷ 1 ∷ 0 ∷ 0 ∷ nobody)
    ∷ refuses (holding 1 []) ExcStart 12 (1 ∷ 0 ∷ 0 ∷ 0 ∷ 0 ∷ 0 ∷ 0 ∷ 0 ∷ 1 ∷ nobody)
    -- exc_check_count goes on by one cell, whoever is at the others
    ∷ does (checking 1 5 0 []) ExcCheckCount (1 ∷ 1 ∷ 0 ∷ 0 ∷ 0 ∷ 5 ∷ 1 ∷ 1 ∷ 0 ∷ nobody) []
    ∷ does (checking 2 5 0 (zero_cell ∷ readers 1 2 ∷ [])) ExcCheckCount (1 ∷ 1 ∷ 0 ∷ 0 ∷ 0 ∷ 5 ∷ 1 ∷ 1 ∷ 0 ∷ 0 ∷ 0 ∷ 0 ∷ 3 ∷ 1 ∷ 2 ∷ []) []
    ∷ does (checking 2 5 1 (readers 1 0 ∷ [])) ExcCheckCount (1 ∷ 1 ∷ 0 ∷ 0 ∷ 0 ∷ 5 ∷ 1 ∷ 2 ∷ 0 ∷ 1 ∷ 1 ∷ 0 ∷ nobody) []
    ∷ does (checking 16 5 15 []) ExcCheckCount (1 ∷ 1 ∷ 0 ∷ 0 ∷ 0 ∷ 5 ∷ 1 ∷ 16 ∷ 0 ∷ zeros 48) []
    -- it needs a pending writer (12), the cursor below the width (13), and count 0 there (16: P7)
    ∷ refuses (away 1 5 []) ExcCheckCount 12 (0 ∷ 1 ∷ 0 ∷ 0 ∷ 0 ∷ 5 ∷ 0 ∷ 0 ∷ 0 ∷ nobody)
    ∷ refuses (holding 1 []) ExcCheckCount 12 (1 ∷ 0 ∷ 0 ∷ 0 ∷ 0 ∷ 0 ∷ 0 ∷ 0 ∷ 1 ∷ nobody)
    ∷ refuses (checking 1 5 1 []) ExcCheckCount 13 (1 ∷ 1 ∷ 0 ∷ 0 ∷ 0 ∷ 5 ∷ 1 ∷ 1 ∷ 0 ∷ nobody)
    ∷ refuses (checking 16 5 16 []) ExcCheckCount 13 (1 ∷ 1 ∷ 0 ∷ 0 ∷ 0 ∷ 5 ∷ 1 ∷ 16 ∷ 0 ∷ zeros 48)
    ∷ refuses (checking 1 5 0 (readers 1 0 ∷ [])) ExcCheckCount 16 (1 ∷ 1 ∷ 0 ∷ 0 ∷ 0 ∷ 5 ∷ 1 ∷ 0 ∷ 0 ∷ 1 ∷ 1 ∷ 0 ∷ [])
    ∷ refuses (checking 2 5 1 (zero_cell ∷ readers 0 1 ∷ [])) ExcCheckCount 16 (1 ∷ 1 ∷ 0 ∷ 0 ∷ 0 ∷ 5 ∷ 1 ∷ 1 ∷ 0 ∷ 0 ∷ 0 ∷ 0 ∷ 1 ∷ 0 ∷ 1 ∷ [])
    -- exc_finish takes the guard and logs the record that it withdraws; who came after the check waits on (P8, with one more check)
    ∷ does (checking 2 16909060 2 []) ExcFinish (1 ∷ 0 ∷ 0 ∷ 0 ∷ 0 ∷ 0 ∷ 0 ∷ 0 ∷ 1 ∷ zeros 6) (5 ∷ 1 ∷ 1 ∷ 2 ∷ 3 ∷ 4 ∷ [])
    ∷ does (checking 1 5 1 (readers 2 0 ∷ [])) ExcFinish (1 ∷ 0 ∷ 0 ∷ 0 ∷ 0 ∷ 0 ∷ 0 ∷ 0 ∷ 1 ∷ 2 ∷ 2 ∷ 0 ∷ []) (5 ∷ 1 ∷ 0 ∷ 0 ∷ 0 ∷ 5 ∷ [])
    ∷ does (checking 16 5 16 []) ExcFinish (1 ∷ 0 ∷ 0 ∷ 0 ∷ 0 ∷ 0 ∷ 0 ∷ 0 ∷ 1 ∷ zeros 48) (5 ∷ 1 ∷ 0 ∷ 0 ∷ 0 ∷ 5 ∷ [])
    -- it needs a pending writer (12), and the cursor at the width (13: P8)
    ∷ refuses (away 1 5 []) ExcFinish 12 (0 ∷ 1 ∷ 0 ∷ 0 ∷ 0 ∷ 5 ∷ 0 ∷ 0 ∷ 0 ∷ nobody)
    ∷ refuses (holding 1 []) ExcFinish 12 (1 ∷ 0 ∷ 0 ∷ 0 ∷ 0 ∷ 0 ∷ 0 ∷ 0 ∷ 1 ∷ nobody)
    ∷ refuses (checking 2 5 1 []) ExcFinish 13 (1 ∷ 1 ∷ 0 ∷ 0 ∷ 0 ∷ 5 ∷ 1 ∷ 1 ∷ 0 ∷ zeros 6)
    ∷ refuses (checking 16 5 15 []) ExcFinish 13 (1 ∷ 1 ∷ 0 ∷ 0 ∷ 0 ∷ 5 ∷ 1 ∷ 15 ∷ 0 ∷ zeros 48)
    -- exc_release unlocks and stores its record; it needs the writer guard (12)
    ∷ does (holding 1 []) (ExcRelease 16909060) (0 ∷ 1 ∷ 1 ∷ 2 ∷ 3 ∷ 4 ∷ 0 ∷ 0 ∷ 0 ∷ nobody) []
    ∷ does (holding 2 (readers 2 0 ∷ [])) (ExcRelease 0) (0 ∷ 1 ∷ 0 ∷ 0 ∷ 0 ∷ 0 ∷ 0 ∷ 0 ∷ 0 ∷ 2 ∷ 2 ∷ 0 ∷ nobody) []
    ∷ refuses (away 1 5 []) (ExcRelease 6) 12 (0 ∷ 1 ∷ 0 ∷ 0 ∷ 0 ∷ 5 ∷ 0 ∷ 0 ∷ 0 ∷ nobody)
    ∷ refuses (checking 1 5 1 []) (ExcRelease 6) 12 (1 ∷ 1 ∷ 0 ∷ 0 ∷ 0 ∷ 5 ∷ 1 ∷ 1 ∷ 0 ∷ nobody)
    ∷ []

abbrev pub shared_cases : List (Case lock)
shared_cases =
    -- shared_start adds 1 to the cell, locked or not
    does (away 1 5 []) (SharedStart 0) (0 ∷ 1 ∷ 0 ∷ 0 ∷ 0 ∷ 5 ∷ 0 ∷ 0 ∷ 0 ∷ 1 ∷ 1 ∷ 0 ∷ []) []
    ∷ does (away 2 5 (readers 1 0 ∷ readers 1 2 ∷ [])) (SharedStart 1) (0 ∷ 1 ∷ 0 ∷ 0 ∷ 0 ∷ 5 ∷ 0 ∷ 0 ∷ 0 ∷ 1 ∷ 1 ∷ 0 ∷ 4 ∷ 2 ∷ 2 ∷ []) []
    ∷ does (away 16 5 []) (SharedStart 15) (0 ∷ 1 ∷ 0 ∷ 0 ∷ 0 ∷ 5 ∷ 0 ∷ 0 ∷ 0 ∷ (zeros 45 ++ (1 ∷ 1 ∷ 0 ∷ []))) []
    ∷ does (checking 1 5 1 []) (SharedStart 0) (1 ∷ 1 ∷ 0 ∷ 0 ∷ 0 ∷ 5 ∷ 1 ∷ 1 ∷ 0 ∷ 1 ∷ 1 ∷ 0 ∷ []) []
    ∷ does (holding 1 []) (SharedStart 0) (1 ∷ 0 ∷ 0 ∷ 0 ∷ 0 ∷ 0 ∷ 0 ∷ 0 ∷ 1 ∷ 1 ∷ 1 ∷ 0 ∷ []) []
    -- it needs r inside (11), and the count below 255 (18)
    ∷ refuses (away 1 5 []) (SharedStart 1) 11 (0 ∷ 1 ∷ 0 ∷ 0 ∷ 0 ∷ 5 ∷ 0 ∷ 0 ∷ 0 ∷ nobody)
    ∷ refuses (away 16 5 []) (SharedStart 16) 11 (0 ∷ 1 ∷ 0 ∷ 0 ∷ 0 ∷ 5 ∷ 0 ∷ 0 ∷ 0 ∷ zeros 48)
    ∷ does (away 1 5 (readers 254 0 ∷ [])) (SharedStart 0) (0 ∷ 1 ∷ 0 ∷ 0 ∷ 0 ∷ 5 ∷ 0 ∷ 0 ∷ 0 ∷ 255 ∷ 255 ∷ 0 ∷ []) []
    ∷ refuses (away 1 5 (readers 255 0 ∷ [])) (SharedStart 0) 18 (0 ∷ 1 ∷ 0 ∷ 0 ∷ 0 ∷ 5 ∷ 0 ∷ 0 ∷ 0 ∷ 255 ∷ 255 ∷ 0 ∷ [])
    ∷ refuses (away 1 5 (readers 0 255 ∷ [])) (SharedStart 0) 18 (0 ∷ 1 ∷ 0 ∷ 0 ∷ 0 ∷ 5 ∷ 0 ∷ 0 ∷ 0 ∷ 255 ∷ 0 ∷ 255 ∷ [])
    -- shared_finish makes a pending reader's guard of it, and logs r and the record
    ∷ does (away 1 16909060 (readers 1 0 ∷ [])) (SharedFinish 0) (0 ∷ 1 ∷ 1 ∷ 2 ∷ 3 ∷ 4 ∷ 0 ∷ 0 ∷ 0 ∷ 1 ∷ 0 ∷ 1 ∷ []) (6 ∷ 2 ∷ 0 ∷ 1 ∷ 2 ∷ 3 ∷ 4 ∷ [])
    ∷ does (away 2 5 (readers 1 0 ∷ readers 2 1 ∷ [])) (SharedFinish 1) (0 ∷ 1 ∷ 0 ∷ 0 ∷ 0 ∷ 5 ∷ 0 ∷ 0 ∷ 0 ∷ 1 ∷ 1 ∷ 0 ∷ 3 ∷ 1 ∷ 2 ∷ []) (6 ∷ 2 ∷ 1 ∷ 0 ∷ 0 ∷ 0 ∷ 5 ∷ [])
    -- it needs r inside (11), unlocked (12: P7), and a pending reader at r (17); where it lacks several, the lowest code is given
    ∷ refuses (away 1 5 (readers 1 0 ∷ [])) (SharedFinish 1) 11 (0 ∷ 1 ∷ 0 ∷ 0 ∷ 0 ∷ 5 ∷ 0 ∷ 0 ∷ 0 ∷ 1 ∷ 1 ∷ 0 ∷ [])
    ∷ refuses (checking 1 5 0 (readers 1 0 ∷ [])) (SharedFinish 0) 12 (1 ∷ 1 ∷ 0 ∷ 0 ∷ 0 ∷ 5 ∷ 1 ∷ 0 ∷ 0 ∷ 1 ∷ 1 ∷ 0 ∷ [])
    ∷ refuses (holding 1 (readers 1 0 ∷ [])) (SharedFinish 0) 12 (1 ∷ 0 ∷ 0 ∷ 0 ∷ 0 ∷ 0 ∷ 0 ∷ 0 ∷ 1 ∷ 1 ∷ 1 ∷ 0 ∷ [])
    ∷ refuses (checking 1 5 0 []) (SharedFinish 1) 11 (1 ∷ 1 ∷ 0 ∷ 0 ∷ 0 ∷ 5 ∷ 1 ∷ 0 ∷ 0 ∷ nobody)
    ∷ refuses (checking 1 5 0 []) (SharedFinish 0) 12 (1 ∷ 1 ∷ 0 ∷ 0 ∷ 0 ∷ 5 ∷ 1 ∷ 0 ∷ 0 ∷ nobody)
    ∷ refuses (away 2 5 (readers 0 1 ∷ readers 1 0 ∷ [])) (SharedFinish 0) 17 (0 ∷ 1 ∷ 0 ∷ 0 ∷ 0 ∷ 5 ∷ 0 ∷ 0 ∷ 0 ∷ 1 ∷ 0 ∷ 1 ∷ 1 ∷ 1 ∷ 0 ∷ [])
    -- shared_release takes 1 off, locked or not, and logs nothing
    ∷ does (away 1 5 (readers 1 1 ∷ [])) (SharedRelease 0 5) (0 ∷ 1 ∷ 0 ∷ 0 ∷ 0 ∷ 5 ∷ 0 ∷ 0 ∷ 0 ∷ 1 ∷ 1 ∷ 0 ∷ []) []
    ∷ does (away 1 0 (readers 0 255 ∷ [])) (SharedRelease 0 0) (0 ∷ 1 ∷ 0 ∷ 0 ∷ 0 ∷ 0 ∷ 0 ∷ 0 ∷ 0 ∷ 254 ∷ 0 ∷ 254 ∷ []) []
    ∷ does (checking 2 5 1 (zero_cell ∷ readers 0 2 ∷ [])) (SharedRelease 1 5) (1 ∷ 1 ∷ 0 ∷ 0 ∷ 0 ∷ 5 ∷ 1 ∷ 1 ∷ 0 ∷ 0 ∷ 0 ∷ 0 ∷ 1 ∷ 0 ∷ 1 ∷ []) []
    -- it needs r inside (11), and that very guard (17): there is nobody at r, nothing is in store that it could carry, or it carries another record
    ∷ refuses (away 1 5 (readers 0 1 ∷ [])) (SharedRelease 1 5) 11 (0 ∷ 1 ∷ 0 ∷ 0 ∷ 0 ∷ 5 ∷ 0 ∷ 0 ∷ 0 ∷ 1 ∷ 0 ∷ 1 ∷ [])
    ∷ refuses (away 2 5 (readers 1 0 ∷ readers 0 1 ∷ [])) (SharedRelease 0 5) 17 (0 ∷ 1 ∷ 0 ∷ 0 ∷ 0 ∷ 5 ∷ 0 ∷ 0 ∷ 0 ∷ 1 ∷ 1 ∷ 0 ∷ 1 ∷ 0 ∷ 1 ∷ [])
    ∷ refuses (holding 1 (readers 1 0 ∷ [])) (SharedRelease 0 0) 17 (1 ∷ 0 ∷ 0 ∷ 0 ∷ 0 ∷ 0 ∷ 0 ∷ 0 ∷ 1 ∷ 1 ∷ 1 ∷ 0 ∷ [])
    ∷ refuses_unsound (storeless 1 (readers 0 1 ∷ [])) (SharedRelease 0 0) 17 (0 ∷ 0 ∷ 0 ∷ 0 ∷ 0 ∷ 0 ∷ 0 ∷ 0 ∷ 0 ∷ 1 ∷ 0 ∷ 1 ∷ [])
    ∷ refuses (away 1 5 (readers 0 1 ∷ [])) (SharedRelease 0 6) 17 (0 ∷ 1 ∷ 0 ∷ 0 ∷ 0 ∷ 5 ∷ 0 ∷ 0 ∷ 0 ∷ 1 ∷ 0 ∷ 1 ∷ [])
    ∷ []

-- whole runs of a fresh lock: a reader gets its guard with the record in store; after a handover, with the new one; and stops a writer at its cell
abbrev pub whole_runs : List (Case lock)
whole_runs =
    runs (away 1 5 []) (SharedStart 0 ∷ SharedFinish 0 ∷ []) 0 2 (0 ∷ 1 ∷ 0 ∷ 0 ∷ 0 ∷ 5 ∷ 0 ∷ 0 ∷ 0 ∷ 1 ∷ 0 ∷ 1 ∷ []) (6 ∷ 2 ∷ 0 ∷ 0 ∷ 0 ∷ 0 ∷ 5 ∷ [])
    ∷ runs (away 1 5 []) (ExcStart ∷ ExcCheckCount ∷ ExcFinish ∷ ExcRelease 6 ∷ SharedStart 0 ∷ SharedFinish 0 ∷ []) 0 6
    (0 ∷ 1 ∷ 0 ∷ 0 ∷ 0 ∷ 6 ∷ 0 ∷ 0 ∷ 0 ∷ 1 ∷ 0 ∷ 1 ∷ []) (5 ∷ 1 ∷ 0 ∷ 0 ∷ 0 ∷ 5 ∷ 6 ∷ 2 ∷ 0 ∷ 0 ∷ 0 ∷ 0 ∷ 6 ∷ [])
    ∷ runs (away 1 5 []) (SharedStart 0 ∷ SharedFinish 0 ∷ ExcStart ∷ ExcCheckCount ∷ []) 16 3 (1 ∷ 1 ∷ 0 ∷ 0 ∷ 0 ∷ 5 ∷ 1 ∷ 0 ∷ 0 ∷ 1 ∷ 0 ∷ 1 ∷ [])
    (6 ∷ 2 ∷ 0 ∷ 0 ∷ 0 ∷ 0 ∷ 5 ∷ [])
    ∷ []

-- P2: a fresh lock has exactly the asked width, all counts 0, unlocked, storing the record; width 0 or 17 is 5, with a state of zeros
abbrev pub fresh_cases : List (Start (ℕ × ℕ))
fresh_cases =
    starts (1, 16909060) 0 (0 ∷ 1 ∷ 1 ∷ 2 ∷ 3 ∷ 4 ∷ 0 ∷ 0 ∷ 0 ∷ nobody)
    ∷ starts (2, 0) 0 (0 ∷ 1 ∷ 0 ∷ 0 ∷ 0 ∷ 0 ∷ 0 ∷ 0 ∷ 0 ∷ zeros 6)
    ∷ starts (16, 5) 0 (0 ∷ 1 ∷ 0 ∷ 0 ∷ 0 ∷ 5 ∷ 0 ∷ 0 ∷ 0 ∷ zeros 48)
    ∷ starts (0, 5) 5 (zeros 9)
    ∷ starts (17, 5) 5 (zeros 9)
    ∷ []

-- rows with one thing wrong in each: the code, the place, the image, whether it is sound, the log
abbrev pub wrong_cases : List (Case lock)
wrong_cases =
    runs (away 1 5 (readers 1 0 ∷ [])) (SharedFinish 0 ∷ []) 12 1 (0 ∷ 1 ∷ 0 ∷ 0 ∷ 0 ∷ 5 ∷ 0 ∷ 0 ∷ 0 ∷ 1 ∷ 0 ∷ 1 ∷ []) (6 ∷ 2 ∷ 0 ∷ 0 ∷ 0 ∷ 0 ∷ 5 ∷ [])
    ∷ runs (away 1 5 (readers 1 0 ∷ [])) (SharedFinish 0 ∷ []) 0 0 (0 ∷ 1 ∷ 0 ∷ 0 ∷ 0 ∷ 5 ∷ 0 ∷ 0 ∷ 0 ∷ 1 ∷ 0 ∷ 1 ∷ []) (6 ∷ 2 ∷ 0 ∷ 0 ∷ 0 ∷ 0 ∷ 5 ∷ [])
    ∷ does (away 1 5 (readers 1 0 ∷ [])) (SharedFinish 0) (0 ∷ 1 ∷ 0 ∷ 0 ∷ 0 ∷ 5 ∷ 0 ∷ 0 ∷ 0 ∷ 1 ∷ 1 ∷ 0 ∷ []) (6 ∷ 2 ∷ 0 ∷ 0 ∷ 0 ∷ 0 ∷ 5 ∷ [])
    ∷ refuses_unsound (away 1 5 []) (SharedStart 1) 11 (0 ∷ 1 ∷ 0 ∷ 0 ∷ 0 ∷ 5 ∷ 0 ∷ 0 ∷ 0 ∷ nobody)
    ∷ does (away 1 5 (readers 1 0 ∷ [])) (SharedFinish 0) (0 ∷ 1 ∷ 0 ∷ 0 ∷ 0 ∷ 5 ∷ 0 ∷ 0 ∷ 0 ∷ 1 ∷ 0 ∷ 1 ∷ []) []
    ∷ []

-- and of a fresh lock: the code, the image
abbrev pub wrong_fresh : List (Start (ℕ × ℕ))
wrong_fresh =
    starts (1, 5) 5 (0 ∷ 1 ∷ 0 ∷ 0 ∷ 0 ∷ 5 ∷ 0 ∷ 0 ∷ 0 ∷ nobody)
    ∷ starts (1, 5) 0 (0 ∷ 1 ∷ 0 ∷ 0 ∷ 0 ∷ 6 ∷ 0 ∷ 0 ∷ 0 ∷ nobody)
    ∷ []

-- ---------- the machine's answers are the tables'

abbrev fresh_code : ℕ × ℕ → ℕ
fresh_code a = (fresh_of a.0 a.1).code

abbrev fresh_made : ℕ × ℕ → State
fresh_made a = (fresh_of a.0 a.1).state

abbrev pub Tabled : Type 0
Tabled =
    (all_right lock sound image_bytes entry_bytes exc_cases && (all_right lock sound image_bytes entry_bytes shared_cases
    && (all_right lock sound image_bytes entry_bytes whole_runs && (all_started lock sound image_bytes entry_bytes fresh_code fresh_made fresh_cases
    && (all_wrong lock sound image_bytes entry_bytes wrong_cases && none_started lock sound image_bytes entry_bytes fresh_code fresh_made wrong_fresh))))) ≡ true
