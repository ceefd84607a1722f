-- The flag with helping as the scope has it: a step's tests, the state after it, what it logs. Assumes nothing.
use Rattle.std.specs.Prelude.{ℕ, suc, ◌≡◌, refl, Bool, true, false, cond, not, List, [], ◌∷◌, ◌++◌, eqb, ltb, get_or, set, replicate}
use Rattle.machine.specs.Check.{Check, need, rises}
use Rattle.machine.specs.Machine.{Machine}
use Rattle.machine.specs.Codes as code
use Rattle.schedule.specs.Limits as limit
use Rattle.schedule.specs.declared.steps.FlagStep.{FlagStep}
use Rattle.schedule.specs.declared.steps.FlagStep.TheVariants.{Begin, Move, Read}
use Rattle.flag.specs.declared.state.State.{State}
use Rattle.machine.specs.Made.{Fresh}
use Rattle.flag.specs.declared.moves.Flips.{Flips}
use Rattle.flag.specs.declared.moves.Flips.TheVariants.{Nobody, Mover, Both}
use Rattle.flag.specs.declared.moves.Went.{Went}
use Rattle.flag.specs.declared.entry.Entry.{Entry}
use Rattle.flag.specs.declared.entry.Entry.TheVariants.{Flip, Saw}

-- ---------- fresh: nobody in a flip, nothing pending; bad parameters are 5 with a state of zeros

abbrev pub fresh_state : ℕ → Bool → State
fresh_state threads value = record { threads = threads; pending = 0; value = value; places = replicate limit.threads 0 }

-- a machine that is made, and the code
abbrev pub fresh_of : ℕ → Bool → Fresh State
fresh_of threads value =
    cond (eqb threads 0) (record { state = fresh_state 0 false; code = code.parameter })
    (cond (ltb limit.threads threads) (record { state = fresh_state 0 false; code = code.parameter })
    (record { state = fresh_state threads value; code = code.accepted }))

-- ---------- the tests: the thread is there, then its place

abbrev pub place : State → ℕ → ℕ
place s k = get_or s.places k 0

abbrev pub inside_tests : ℕ → ℕ → List Check
inside_tests threads k = need code.outside (ltb k threads) ∷ []

abbrev pub idle_tests : ℕ → List Check
idle_tests p = need code.phase (eqb p 0) ∷ []

abbrev pub busy_tests : ℕ → List Check
busy_tests p = need code.phase (not (eqb p 0)) ∷ []

-- begin and read need place 0, move another
abbrev pub tests : State → FlagStep → List Check
tests s (Begin k) = inside_tests s.threads k ++ idle_tests (place s k)
tests s (Move k) = inside_tests s.threads k ++ busy_tests (place s k)
tests s (Read k) = inside_tests s.threads k ++ idle_tests (place s k)

-- ---------- one move, from a place p with `pending` d and value v

abbrev pub to : ℕ → ℕ → Bool → Flips → Went
to p d v f = record { place = p; pending = d; value = v; flips = f }

-- 1: pending 1 becomes 2, flip done; else 2. 2: true becomes false, done; else 3. 3: false becomes true, done; else 4. 4: pending 0 becomes 1, to 5;
-- else 1. 5: pending 1 becomes 0, to 1; else 6. 6: store 0, done
abbrev pub went : ℕ → ℕ → Bool → Went
went p d v =
    cond (eqb p 1) (cond (eqb d 1) (to 0 2 v Both) (to 2 d v Nobody))
    (cond (eqb p 2) (cond v (to 0 d false Mover) (to 3 d v Nobody))
    (cond (eqb p 3) (cond v (to 4 d v Nobody) (to 0 d true Mover))
    (cond (eqb p 4) (cond (eqb d 0) (to 5 1 v Nobody) (to 1 d v Nobody))
    (cond (eqb p 5) (cond (eqb d 1) (to 1 0 v Nobody) (to 6 d v Nobody))
    (cond (eqb p 6) (to 0 0 v Nobody)
    (to p d v Nobody))))))

abbrev pub went_by : State → ℕ → Went
went_by s k = went (place s k) s.pending s.value

-- the first thread at 5
abbrev pub offerer : List ℕ → ℕ
offerer [] = 0
offerer (p ∷ ps) = cond (eqb p 5) 0 (suc (offerer ps))

-- ---------- the state after, and what is logged

abbrev pub with_place : State → ℕ → ℕ → ℕ → Bool → State
with_place s k p d v = record { threads = s.threads; pending = d; value = v; places = set s.places k p }

abbrev pub next : State → FlagStep → State
next s (Begin k) = with_place s k 1 s.pending s.value
next s (Move k) = with_place s k (went_by s k).place (went_by s k).pending (went_by s k).value
next s (Read k) = s

-- a place 1 success logs the thread at 5, then the mover; places 2 and 3 log the mover
abbrev pub flipped : Flips → ℕ → ℕ → List Entry
flipped Nobody o k = []
flipped Mover o k = Flip k ∷ []
flipped Both o k = Flip o ∷ Flip k ∷ []

abbrev pub logs : State → FlagStep → List Entry
logs s (Begin k) = []
logs s (Move k) = flipped (went_by s k).flips (offerer s.places) k
logs s (Read k) = Saw k s.value ∷ []

pub rising : (s : State) (x : FlagStep) → rises 1 (tests s x) ≡ true
rising s (Begin k) = refl
rising s (Move k) = refl
rising s (Read k) = refl

abbrev pub flag : Machine
flag = record { State = State; Step = FlagStep; Entry = Entry; tests = tests; next = next; logs = logs; rising = rising }
