-- Small cases of each step, written from the scope ("Codes", "Flag", "Log and image", P11 and P12) and not from specs/Flag.antt: fresh flags; for each
-- step one that is accepted, and for each of its tests one that this test refuses; every place with success and failure of its exchange; and the two
-- whole runs. Proved by one claim, in proofs/Tabled.antt. Assumes nothing.
use Rattle.std.specs.Prelude.{ℕ, ◌≡◌, Bool, true, false, ◌&&◌, List, [], ◌∷◌, length, replicate}
use Rattle.machine.specs.Table.{Case, does, refuses, refuses_unsound, runs, Start, starts, all_right, all_wrong, all_started, none_started}
use Rattle.schedule.specs.Limits as limit
use Rattle.schedule.specs.declared.steps.FlagStep.TheVariants.{Begin, Move, Read}
use Rattle.flag.specs.Flag.{flag, fresh_of}
use Rattle.flag.specs.Sound.{sound}
use Rattle.flag.specs.Image.{image_bytes, entry_bytes}
use Rattle.flag.specs.declared.state.State.{State}

-- ---------- states, by the image that they have

-- the row of places, those behind the last thread 0
abbrev row : List ℕ → List ℕ → List ℕ
row zeros [] = zeros
row [] (p ∷ ps) = []
row (z ∷ zeros) (p ∷ ps) = p ∷ row zeros ps

-- value, pending, a place for each thread
abbrev standing : Bool → ℕ → List ℕ → State
standing v d ps = record { threads = length ps; pending = d; value = v; places = row (replicate limit.threads 0) ps }

-- ---------- fresh flags, by threads and value

abbrev pub fresh_cases : List (Start (ℕ × Bool))
fresh_cases =
    -- 1 to 8 threads, all idle, nothing pending, the value asked for; else 5 and a state of zeros
    starts (1, false) 0 (0 ∷ 0 ∷ 0 ∷ [])
    ∷ starts (2, true) 0 (1 ∷ 0 ∷ 0 ∷ 0 ∷ [])
    ∷ starts (8, true) 0 (1 ∷ 0 ∷ 0 ∷ 0 ∷ 0 ∷ 0 ∷ 0 ∷ 0 ∷ 0 ∷ 0 ∷ [])
    ∷ starts (0, true) 5 (0 ∷ 0 ∷ [])
    ∷ starts (9, true) 5 (0 ∷ 0 ∷ [])
    ∷ []

-- ---------- a step on a state: the image of the state after it and the bytes that it logs, or its code and the image of the state as it was

abbrev pub cases : List (Case flag)
cases =
    -- begin goes to place 1 and logs nothing, whatever the others do; it needs a thread of the flag (11), and that idle (12)
    does (standing false 0 (0 ∷ 0 ∷ [])) (Begin 0) (0 ∷ 0 ∷ 1 ∷ 0 ∷ []) []
    ∷ does (standing true 1 (5 ∷ 0 ∷ [])) (Begin 1) (1 ∷ 1 ∷ 5 ∷ 1 ∷ []) []
    ∷ does (standing true 2 (0 ∷ 6 ∷ [])) (Begin 0) (1 ∷ 2 ∷ 1 ∷ 6 ∷ []) []
    ∷ refuses (standing false 0 (0 ∷ 0 ∷ [])) (Begin 2) 11 (0 ∷ 0 ∷ 0 ∷ 0 ∷ [])
    ∷ refuses (standing false 0 (0 ∷ [])) (Begin 255) 11 (0 ∷ 0 ∷ 0 ∷ [])
    ∷ does (standing false 0 (0 ∷ 0 ∷ 0 ∷ 0 ∷ 0 ∷ 0 ∷ 0 ∷ 0 ∷ [])) (Begin 7) (0 ∷ 0 ∷ 0 ∷ 0 ∷ 0 ∷ 0 ∷ 0 ∷ 0 ∷ 0 ∷ 1 ∷ []) []
    ∷ refuses (standing false 0 (1 ∷ 0 ∷ [])) (Begin 0) 12 (0 ∷ 0 ∷ 1 ∷ 0 ∷ [])
    ∷ refuses (standing true 2 (0 ∷ 6 ∷ [])) (Begin 1) 12 (1 ∷ 2 ∷ 0 ∷ 6 ∷ [])
    -- 1: pending 1 becomes 2, flip done, and both are logged, the thread at 5 first; else 2
    ∷ does (standing false 1 (5 ∷ 1 ∷ [])) (Move 1) (0 ∷ 2 ∷ 5 ∷ 0 ∷ []) (2 ∷ 1 ∷ 0 ∷ 2 ∷ 1 ∷ 1 ∷ [])
    ∷ does (standing true 1 (1 ∷ 5 ∷ [])) (Move 0) (1 ∷ 2 ∷ 0 ∷ 5 ∷ []) (2 ∷ 1 ∷ 1 ∷ 2 ∷ 1 ∷ 0 ∷ [])
    ∷ does (standing true 1 (4 ∷ 5 ∷ 1 ∷ [])) (Move 2) (1 ∷ 2 ∷ 4 ∷ 5 ∷ 0 ∷ []) (2 ∷ 1 ∷ 1 ∷ 2 ∷ 1 ∷ 2 ∷ [])
    ∷ does (standing true 0 (1 ∷ 0 ∷ [])) (Move 0) (1 ∷ 0 ∷ 2 ∷ 0 ∷ []) []
    ∷ does (standing false 2 (5 ∷ 1 ∷ [])) (Move 1) (0 ∷ 2 ∷ 5 ∷ 2 ∷ []) []
    ∷ does (standing false 2 (6 ∷ 1 ∷ [])) (Move 1) (0 ∷ 2 ∷ 6 ∷ 2 ∷ []) []
    -- 2: true becomes false, done, and the mover is logged; else 3
    ∷ does (standing true 0 (2 ∷ 0 ∷ [])) (Move 0) (0 ∷ 0 ∷ 0 ∷ 0 ∷ []) (2 ∷ 1 ∷ 0 ∷ [])
    ∷ does (standing true 1 (5 ∷ 2 ∷ [])) (Move 1) (0 ∷ 1 ∷ 5 ∷ 0 ∷ []) (2 ∷ 1 ∷ 1 ∷ [])
    ∷ does (standing false 0 (2 ∷ 0 ∷ [])) (Move 0) (0 ∷ 0 ∷ 3 ∷ 0 ∷ []) []
    ∷ does (standing false 2 (5 ∷ 2 ∷ [])) (Move 1) (0 ∷ 2 ∷ 5 ∷ 3 ∷ []) []
    -- 3: false becomes true, done, and the mover is logged; else 4
    ∷ does (standing false 0 (0 ∷ 3 ∷ [])) (Move 1) (1 ∷ 0 ∷ 0 ∷ 0 ∷ []) (2 ∷ 1 ∷ 1 ∷ [])
    ∷ does (standing false 2 (3 ∷ 6 ∷ [])) (Move 0) (1 ∷ 2 ∷ 0 ∷ 6 ∷ []) (2 ∷ 1 ∷ 0 ∷ [])
    ∷ does (standing true 0 (0 ∷ 3 ∷ [])) (Move 1) (1 ∷ 0 ∷ 0 ∷ 4 ∷ []) []
    ∷ does (standing true 1 (3 ∷ 5 ∷ [])) (Move 0) (1 ∷ 1 ∷ 4 ∷ 5 ∷ []) []
    -- 4: pending 0 becomes 1, to 5; else 1
    ∷ does (standing true 0 (4 ∷ 3 ∷ [])) (Move 0) (1 ∷ 1 ∷ 5 ∷ 3 ∷ []) []
    ∷ does (standing false 0 (4 ∷ 4 ∷ [])) (Move 1) (0 ∷ 1 ∷ 4 ∷ 5 ∷ []) []
    ∷ does (standing true 1 (4 ∷ 5 ∷ [])) (Move 0) (1 ∷ 1 ∷ 1 ∷ 5 ∷ []) []
    ∷ does (standing false 2 (4 ∷ 6 ∷ [])) (Move 0) (0 ∷ 2 ∷ 1 ∷ 6 ∷ []) []
    -- 5: pending 1 becomes 0, to 1; else 6
    ∷ does (standing true 1 (5 ∷ 0 ∷ [])) (Move 0) (1 ∷ 0 ∷ 1 ∷ 0 ∷ []) []
    ∷ does (standing false 2 (0 ∷ 5 ∷ [])) (Move 1) (0 ∷ 2 ∷ 0 ∷ 6 ∷ []) []
    -- 6: store 0, done; the flip was logged when it was carried out
    ∷ does (standing true 2 (6 ∷ 1 ∷ [])) (Move 0) (1 ∷ 0 ∷ 0 ∷ 1 ∷ []) []
    ∷ does (standing false 2 (0 ∷ 6 ∷ [])) (Move 1) (0 ∷ 0 ∷ 0 ∷ 0 ∷ []) []
    -- move needs a thread of the flag (11, tested first: behind the last thread all places are 0), and that in a flip (12)
    ∷ refuses (standing true 1 (5 ∷ 1 ∷ [])) (Move 2) 11 (1 ∷ 1 ∷ 5 ∷ 1 ∷ [])
    ∷ refuses (standing false 0 (0 ∷ 3 ∷ [])) (Move 0) 12 (0 ∷ 0 ∷ 0 ∷ 3 ∷ [])
    -- read logs the value and changes nothing; it needs a thread of the flag (11), and that idle (12)
    ∷ does (standing false 0 (0 ∷ 0 ∷ [])) (Read 0) (0 ∷ 0 ∷ 0 ∷ 0 ∷ []) (3 ∷ 2 ∷ 0 ∷ 0 ∷ [])
    ∷ does (standing true 2 (5 ∷ 0 ∷ [])) (Read 1) (1 ∷ 2 ∷ 5 ∷ 0 ∷ []) (3 ∷ 2 ∷ 1 ∷ 1 ∷ [])
    ∷ refuses (standing true 0 (0 ∷ 0 ∷ [])) (Read 2) 11 (1 ∷ 0 ∷ 0 ∷ 0 ∷ [])
    ∷ refuses (standing true 0 (0 ∷ 4 ∷ [])) (Read 1) 12 (1 ∷ 0 ∷ 0 ∷ 4 ∷ [])
    -- a state that is not sound, for there is no pending 3: its tests are the same
    ∷ refuses_unsound (standing false 3 (0 ∷ [])) (Move 0) 12 (0 ∷ 3 ∷ 0 ∷ [])
    ∷ []

-- ---------- whole runs of a fresh flag: the code, the place, the image at the end and the log

abbrev two : State
two = standing false 0 (0 ∷ 0 ∷ [])

abbrev pub whole_runs : List (Case flag)
whole_runs =
    -- P11: thread 1 flips, then takes the offer of thread 0
    runs two
    (Begin 0 ∷ Move 0 ∷ Move 0 ∷ Begin 1 ∷ Move 1 ∷ Move 1 ∷ Move 1
    ∷ Move 0 ∷ Move 0 ∷ Begin 1 ∷ Move 1 ∷ Move 0 ∷ Move 0 ∷ [])
    0 13 (1 ∷ 0 ∷ 0 ∷ 0 ∷ []) (2 ∷ 1 ∷ 1 ∷ 2 ∷ 1 ∷ 0 ∷ 2 ∷ 1 ∷ 1 ∷ [])
    -- P12: back to where thread 0 has just begun
    ∷ runs two
    (Begin 0 ∷ Move 0 ∷ Move 0 ∷ Begin 1 ∷ Move 1 ∷ Move 1 ∷ Move 1
    ∷ Move 0 ∷ Move 0 ∷ Move 0 ∷ Begin 1 ∷ Move 1 ∷ Move 1 ∷ [])
    0 13 (0 ∷ 0 ∷ 1 ∷ 0 ∷ []) (2 ∷ 1 ∷ 1 ∷ 2 ∷ 1 ∷ 1 ∷ [])
    -- the first step that is refused ends a run: thread 0 is in its flip
    ∷ runs two (Read 0 ∷ Begin 0 ∷ Move 0 ∷ Read 0 ∷ Move 0 ∷ []) 12 3 (0 ∷ 0 ∷ 2 ∷ 0 ∷ []) (3 ∷ 2 ∷ 0 ∷ 0 ∷ [])
    ∷ []

-- ---------- rows with one thing wrong in each: the tests say no to all of them, so they look at everything that a row has

abbrev pub wrong_cases : List (Case flag)
wrong_cases =
    -- the code, the place, the image, whether it is sound, the log
    runs two (Read 0 ∷ []) 12 1 (0 ∷ 0 ∷ 0 ∷ 0 ∷ []) (3 ∷ 2 ∷ 0 ∷ 0 ∷ [])
    ∷ runs two (Read 0 ∷ []) 0 2 (0 ∷ 0 ∷ 0 ∷ 0 ∷ []) (3 ∷ 2 ∷ 0 ∷ 0 ∷ [])
    ∷ runs two (Read 0 ∷ []) 0 1 (1 ∷ 0 ∷ 0 ∷ 0 ∷ []) (3 ∷ 2 ∷ 0 ∷ 0 ∷ [])
    ∷ refuses_unsound two (Read 2) 11 (0 ∷ 0 ∷ 0 ∷ 0 ∷ [])
    ∷ runs two (Read 0 ∷ []) 0 1 (0 ∷ 0 ∷ 0 ∷ 0 ∷ []) []
    ∷ []

abbrev pub wrong_fresh : List (Start (ℕ × Bool))
wrong_fresh =
    -- the code, the image
    starts (1, false) 5 (0 ∷ 0 ∷ 0 ∷ [])
    ∷ starts (1, false) 0 (1 ∷ 0 ∷ 0 ∷ [])
    ∷ []

-- ---------- the machine's answers are the tables'

abbrev fresh_code : ℕ × Bool → ℕ
fresh_code p = (fresh_of p.0 p.1).code

abbrev fresh_made : ℕ × Bool → State
fresh_made p = (fresh_of p.0 p.1).state

abbrev pub Tabled : Type 0
Tabled =
    (all_started flag sound image_bytes entry_bytes fresh_code fresh_made fresh_cases
    && (all_right flag sound image_bytes entry_bytes cases
    && (all_right flag sound image_bytes entry_bytes whole_runs
    && (none_started flag sound image_bytes entry_bytes fresh_code fresh_made wrong_fresh && all_wrong flag sound image_bytes entry_bytes wrong_cases))))
    ≡ true
