-- The single step: any state, a step of any kind, a log buffer. A step of another kind, too short a log buffer and a state that is not sound are
-- further tests in front of the machine's own. Assumes nothing.
use Rattle.std.specs.Prelude.{◌≡◌, Bool, cond, List, [], ◌∷◌, ℕ, eqb, leb, length, Result, Ok, Err}
use Rattle.std.proofs.Math.Option.{Option, none, some}
use Rattle.rows.specs.Stores.{over}
use Rattle.rows.specs.Walk.{pieces}
use Rattle.machine.specs.Codes as code
use Rattle.machine.specs.Check.{Check, need, first}
use Rattle.machine.specs.Machine.{Machine, code_of}
use Rattle.machine.specs.Refusals.{verdict_code}
use Rattle.machine.specs.declared.refusal.Refusal.{Refusal}
use Rattle.machine.specs.declared.single.Answer.{Answer}

-- the answer: a refusal hands the state back and logs nothing
pub record Single (m : Machine) : Type 0 where
  pub code : ℕ
  pub state : m.State
  pub wrote : List m.Entry

abbrev pub handed_back : {m : Machine} → ℕ → m.State → Single m
handed_back c s = record { code = c; state = s; wrote = [] }

-- with a test of soundness, and a log buffer that has room for any step's entries
module _ (m : Machine) (sound : m.State → Bool) (room : ℕ) where
  abbrev pub single_tests : m.State → m.Step → List ℕ → List Check
  single_tests s x log = need code.room (leb room (length log)) ∷ need code.unsound (sound s) ∷ m.tests s x

  abbrev pub single : m.State → Option m.Step → List ℕ → Single m
  single s none log = handed_back code.malformed s
  single s (some x) log =
      cond (eqb (first (single_tests s x log)) 0)
      (record { code = code.accepted; state = m.next s x; wrote = m.logs s x })
      (handed_back (first (single_tests s x log)) s)

-- ---------- the single step as a function, which lays the entries over the front of a log

-- an answer in numbers: the place is always 0, and where the step is refused nothing is logged
pub record InNumbers (S : Type 0) : Type 0 where
  pub state : S
  pub place : ℕ
  pub logged : ℕ
  pub code : ℕ

abbrev pub told : {S : Type 0} → S → ℕ → ℕ → InNumbers S
told s n c = record { state = s; place = 0; logged = n; code = c }

abbrev pub bytes_logged : Result ℕ Refusal → ℕ
bytes_logged (Ok n) = n
bytes_logged (Err why) = 0

abbrev pub told_by : {S : Type 0} → Answer S → InNumbers S
told_by a = told a.state (bytes_logged a.logged) (verdict_code a.logged)

-- the steps of all kinds and which of them are the machine's own; its test of soundness, the room that is asked for, an entry's bytes
pub record Stepper (m : Machine) : Type 1 where
  pub Any : Type 0
  pub own : Any → Option m.Step
  pub sound : m.State → Bool
  pub room : ℕ
  pub bytes : m.Entry → List ℕ

module _ {m : Machine} (p : Stepper m) where
  abbrev pub written : Single m → List ℕ
  written o = pieces p.bytes o.wrote

  -- the answer r and the log l' are those of o
  pub record Answers (o : Single m) (l : List ℕ) (r : InNumbers m.State) (l' : List ℕ) : Type 0 where
    pub answer : r ≡ told o.state (length (written o)) o.code
    pub log : l' ≡ over (written o) l

  -- to a step of the machine's own
  abbrev pub Applied : m.State → m.Step → List ℕ → InNumbers m.State → List ℕ → Type 0
  Applied s x l r l' = Answers (single m p.sound p.room s (some x) l) l r l'

  -- to a step of any kind
  abbrev pub Singled : m.State → p.Any → List ℕ → InNumbers m.State → List ℕ → Type 0
  Singled s x l r l' = Answers (single m p.sound p.room s (p.own x) l) l r l'

  -- to a step that logs nothing, accepted or refused, of a sound state
  abbrev pub quietly : m.State → m.Step → InNumbers m.State
  quietly s x = told (cond (eqb (code_of m s x) 0) (m.next s x) s) 0 (code_of m s x)
