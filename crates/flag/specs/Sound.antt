-- When a state is sound: the test that the code makes, one walk over the threads. specs/Refined.antt says what it means. Assumes nothing.
use Rattle.std.specs.Prelude.{ℕ, ◌+◌, Bool, false, cond, not, ◌&&◌, eqb, ltb, leb}
use Rattle.rows.specs.Walk.{every, many}
use Rattle.schedule.specs.Limits as limit
use Rattle.flag.specs.declared.state.State.{State}

-- a thread's place is 0 to 6; what is no thread has place 0
abbrev pub place_sound : ℕ → ℕ → ℕ → Bool
place_sound threads i p = cond (ltb i threads) (leb p 6) (eqb p 0)

-- before the second exchange of try_handshake, and before its store
abbrev pub at_second : ℕ → Bool
at_second p = eqb p 5

abbrev pub at_store : ℕ → Bool
at_store p = eqb p 6

-- pending 0 with no thread at 5 or 6; 1 with exactly one at 5, none at 6; 2 with exactly one at 5 or 6
abbrev pub handshake : ℕ → ℕ → ℕ → Bool
handshake pending fives sixes =
    cond (eqb pending 0) (eqb fives 0 && eqb sixes 0)
    (cond (eqb pending 1) (eqb fives 1 && eqb sixes 0)
    (cond (eqb pending 2) (eqb (fives + sixes) 1)
    false))

abbrev pub places_sound : State → Bool
places_sound s = every (place_sound s.threads) 0 s.places && handshake s.pending (many at_second s.places) (many at_store s.places)

abbrev pub sound : State → Bool
sound s = not (eqb s.threads 0) && (not (ltb limit.threads s.threads) && places_sound s)
