-- Small cases of each step, written from the scope ("Codes", "Counting", "Log and image") and not from specs/Counting.antt: for each step one that is
-- accepted, and for each of its tests one that this test refuses. Proved by one claim, in proofs/Tabled.antt. Assumes nothing.
use Rattle.std.specs.Prelude.{ℕ, ◌≡◌, true, ◌&&◌, List, [], ◌∷◌}
use Rattle.machine.specs.Table.{Case, runs, does, refuses, all_right, all_wrong}
use Rattle.schedule.specs.declared.steps.CountingStep.TheVariants.{WriteableToReadable, ReadableToWriteable, NewRef, DeleteRef}
use Rattle.counting.specs.Counting.{counting, fresh_state}
use Rattle.counting.specs.Sound.{sound}
use Rattle.counting.specs.Image.{image_bytes, entry_bytes}
use Rattle.counting.specs.declared.state.State.{State}

-- t is stored, with n references to it
abbrev storing : ℕ → ℕ → State
storing t n = record { t = t; count = n; refs = n; present = true }

-- 5 is stored, with a counter at 1 and no reference: not sound
abbrev uncounted : State
uncounted = record { t = 5; count = 1; refs = 0; present = true }

-- ---------- the table

abbrev pub cases : List (Case counting)
cases =
    -- writeable_to_readable stores the value, with a counter at 0; it needs no counter
    does fresh_state (WriteableToReadable 5) (1 ∷ 0 ∷ 0 ∷ 0 ∷ 5 ∷ 0 ∷ 0 ∷ []) []
    ∷ does fresh_state (WriteableToReadable 0) (1 ∷ 0 ∷ 0 ∷ 0 ∷ 0 ∷ 0 ∷ 0 ∷ []) []
    ∷ does fresh_state (WriteableToReadable 4294967295) (1 ∷ 255 ∷ 255 ∷ 255 ∷ 255 ∷ 0 ∷ 0 ∷ []) []
    ∷ refuses (storing 5 0) (WriteableToReadable 6) 12 (1 ∷ 0 ∷ 0 ∷ 0 ∷ 5 ∷ 0 ∷ 0 ∷ [])
    ∷ refuses (storing 5 1) (WriteableToReadable 5) 12 (1 ∷ 0 ∷ 0 ∷ 0 ∷ 5 ∷ 1 ∷ 1 ∷ [])
    -- readable_to_writeable logs the value that it withdraws, and nothing is left; it needs a counter, and that at 0 (16: P10)
    ∷ does (storing 16909060 0) ReadableToWriteable (0 ∷ 0 ∷ 0 ∷ 0 ∷ 0 ∷ 0 ∷ 0 ∷ []) (5 ∷ 1 ∷ 1 ∷ 2 ∷ 3 ∷ 4 ∷ [])
    ∷ refuses fresh_state ReadableToWriteable 12 (0 ∷ 0 ∷ 0 ∷ 0 ∷ 0 ∷ 0 ∷ 0 ∷ [])
    ∷ refuses (storing 5 1) ReadableToWriteable 16 (1 ∷ 0 ∷ 0 ∷ 0 ∷ 5 ∷ 1 ∷ 1 ∷ [])
    ∷ refuses (storing 5 255) ReadableToWriteable 16 (1 ∷ 0 ∷ 0 ∷ 0 ∷ 5 ∷ 255 ∷ 255 ∷ [])
    -- new_ref logs the value that its reference carries; it needs a counter (12: P9), and that below 255
    ∷ does (storing 16909060 0) NewRef (1 ∷ 1 ∷ 2 ∷ 3 ∷ 4 ∷ 1 ∷ 1 ∷ []) (5 ∷ 2 ∷ 1 ∷ 2 ∷ 3 ∷ 4 ∷ [])
    ∷ does (storing 5 254) NewRef (1 ∷ 0 ∷ 0 ∷ 0 ∷ 5 ∷ 255 ∷ 255 ∷ []) (5 ∷ 2 ∷ 0 ∷ 0 ∷ 0 ∷ 5 ∷ [])
    ∷ refuses fresh_state NewRef 12 (0 ∷ 0 ∷ 0 ∷ 0 ∷ 0 ∷ 0 ∷ 0 ∷ [])
    ∷ refuses (storing 5 255) NewRef 18 (1 ∷ 0 ∷ 0 ∷ 0 ∷ 5 ∷ 255 ∷ 255 ∷ [])
    -- delete_ref takes one off and logs nothing; it needs a counter (tested first: fresh, there is no reference either), and that very reference (17: P10)
    ∷ does (storing 5 1) (DeleteRef 5) (1 ∷ 0 ∷ 0 ∷ 0 ∷ 5 ∷ 0 ∷ 0 ∷ []) []
    ∷ does (storing 5 255) (DeleteRef 5) (1 ∷ 0 ∷ 0 ∷ 0 ∷ 5 ∷ 254 ∷ 254 ∷ []) []
    ∷ refuses fresh_state (DeleteRef 0) 12 (0 ∷ 0 ∷ 0 ∷ 0 ∷ 0 ∷ 0 ∷ 0 ∷ [])
    ∷ refuses (storing 5 0) (DeleteRef 5) 17 (1 ∷ 0 ∷ 0 ∷ 0 ∷ 5 ∷ 0 ∷ 0 ∷ [])
    ∷ refuses (storing 5 1) (DeleteRef 6) 17 (1 ∷ 0 ∷ 0 ∷ 0 ∷ 5 ∷ 1 ∷ 1 ∷ [])
    -- from fresh: stored, handed out, given back, withdrawn; and a withdrawal too early
    ∷ runs fresh_state (WriteableToReadable 5 ∷ NewRef ∷ DeleteRef 5 ∷ ReadableToWriteable ∷ []) 0 4 (0 ∷ 0 ∷ 0 ∷ 0 ∷ 0 ∷ 0 ∷ 0 ∷ [])
    (5 ∷ 2 ∷ 0 ∷ 0 ∷ 0 ∷ 5 ∷ 5 ∷ 1 ∷ 0 ∷ 0 ∷ 0 ∷ 5 ∷ [])
    ∷ runs fresh_state (WriteableToReadable 5 ∷ NewRef ∷ ReadableToWriteable ∷ []) 16 2 (1 ∷ 0 ∷ 0 ∷ 0 ∷ 5 ∷ 1 ∷ 1 ∷ []) (5 ∷ 2 ∷ 0 ∷ 0 ∷ 0 ∷ 5 ∷ [])
    ∷ []

-- rows with one thing wrong in each: the code, the place, the image, whether the state is sound, the log
abbrev pub wrong_cases : List (Case counting)
wrong_cases =
    runs fresh_state (WriteableToReadable 5 ∷ []) 12 1 (1 ∷ 0 ∷ 0 ∷ 0 ∷ 5 ∷ 0 ∷ 0 ∷ []) []
    ∷ runs fresh_state (WriteableToReadable 5 ∷ []) 0 0 (1 ∷ 0 ∷ 0 ∷ 0 ∷ 5 ∷ 0 ∷ 0 ∷ []) []
    ∷ does fresh_state (WriteableToReadable 5) (1 ∷ 0 ∷ 0 ∷ 0 ∷ 6 ∷ 0 ∷ 0 ∷ []) []
    ∷ refuses uncounted (WriteableToReadable 6) 12 (1 ∷ 0 ∷ 0 ∷ 0 ∷ 5 ∷ 1 ∷ 0 ∷ [])
    ∷ does (storing 5 0) NewRef (1 ∷ 0 ∷ 0 ∷ 0 ∷ 5 ∷ 1 ∷ 1 ∷ []) []
    ∷ []

abbrev pub Tabled : Type 0
Tabled = (all_right counting sound image_bytes entry_bytes cases && all_wrong counting sound image_bytes entry_bytes wrong_cases) ≡ true
