-- What the single step on bytes leaves: the answer, the state's bytes, the log's bytes. Assumes nothing.
use Rattle.std.specs.Prelude.{◌≡◌, cond, List, [], ℕ, eqb, ltb, length, Option, Some, None, Result, Ok, Err}
use Rattle.rows.specs.Bytes.{big}
use Rattle.rows.specs.Stores.{over}
use Rattle.machine.specs.Codes as code
use Rattle.machine.specs.Machine.{Machine}
use Rattle.machine.specs.Refusals.{verdict_code}
use Rattle.machine.specs.Single.{single, Stepper, InNumbers, told, bytes_logged, written}
use Rattle.machine.specs.declared.refusal.Refusal.{Refusal}
use Rattle.schedule.specs.Widths as kinds
use Rattle.schedule.specs.Finding.{Found, found_at}
use Rattle.schedule.specs.declared.steps.Step.{Step}
use Rattle.counting.specs.Single as countingSingle
use Rattle.counting.specs.declared.state.State as countingState
use Rattle.lock.specs.Single as lockSingle
use Rattle.lock.specs.declared.state.State as lockState
use Rattle.flag.specs.Single as flagSingle
use Rattle.flag.specs.declared.state.State as flagState
use Rattle.flat.specs.Single as flatSingle
use Rattle.flat.specs.declared.state.State as flatState
use Rattle.raw.specs.Raw.{byte_at, counting_long, counting_from, counting_bytes, lock_long, lock_from, lock_bytes, flag_long, flag_from, flag_bytes, flat_long, flat_from, flat_bytes}

-- ---------- the step: its kind's byte, then one whole step of that kind, which ends where the bytes end

abbrev pub alone : ℕ → Found → Option Step
alone n (Ok None) = None
alone n (Err broken) = None
alone n (Ok (Some found)) = cond (eqb found.next n) (Some found.step) None

abbrev pub asked_by : List ℕ → Option Step
asked_by step = alone (length step) (found_at (byte_at step 0) step 1)

-- ---------- what a call does to the state's bytes

pub record Stepped : Type 0 where
  pub code : ℕ
  pub state : List ℕ
  pub entry : List ℕ

-- nothing was done
abbrev pub unchanged : ℕ → List ℕ → Stepped
unchanged c raw = record { code = c; state = raw; entry = [] }

-- what a machine's single step answers, its entries as bytes
pub record Outcome (S : Type 0) : Type 0 where
  pub code : ℕ
  pub state : S
  pub entry : List ℕ

abbrev pub outcome : {m : Machine} (p : Stepper m) → m.State → p.Any → List ℕ → Outcome m.State
outcome {m} p s x log = let o = single m p.sound p.room s (p.own x) log in record { code = o.code; state = o.state; entry = written p o }

-- a machine's single step with its raw states: how long one is, the state that it stands for, and a state's bytes
pub record RawStepper (S X : Type 0) : Type 0 where
  pub long : ℕ
  pub from : List ℕ → S
  pub bytes : S → List ℕ
  pub single : S → X → List ℕ → Outcome S

module _ {S X : Type 0} (w : RawStepper S X) where
  -- a function's answer r, told in numbers, and the log l' are those of the single step
  pub record Answers (s : S) (x : X) (l : List ℕ) (r : InNumbers S) (l' : List ℕ) : Type 0 where
    pub answer : r ≡ told (w.single s x l).state (length (w.single s x l).entry) (w.single s x l).code
    pub log : l' ≡ over (w.single s x l).entry l

  -- a machine's own answer: the bytes of the state after where it accepted, else those that were there
  abbrev pub stepped_as : List ℕ → Outcome S → Stepped
  stepped_as raw o = record { code = o.code; state = cond (eqb o.code 0) (w.bytes o.state) raw; entry = o.entry }

  -- the single step on the state that the bytes stand for; bytes of another length are no state of the kind
  abbrev pub stepped : List ℕ → X → List ℕ → Stepped
  stepped raw x log = cond (eqb (length raw) w.long) (stepped_as raw (w.single (w.from raw) x log)) (unchanged code.malformed raw)

abbrev pub flat_raw : RawStepper flatState.State Step
flat_raw = record { long = flat_long; from = flat_from; bytes = flat_bytes; single = outcome flatSingle.stepper }

abbrev pub lock_raw : RawStepper lockState.State Step
lock_raw = record { long = lock_long; from = lock_from; bytes = lock_bytes; single = outcome lockSingle.stepper }

abbrev pub counting_raw : RawStepper countingState.State Step
counting_raw = record { long = counting_long; from = counting_from; bytes = counting_bytes; single = outcome countingSingle.stepper }

abbrev pub flag_raw : RawStepper flagState.State Step
flag_raw = record { long = flag_long; from = flag_from; bytes = flag_bytes; single = outcome flagSingle.stepper }

-- a kind, a state, a step or none, a log buffer
abbrev pub stepped_by : ℕ → List ℕ → Option Step → List ℕ → Stepped
stepped_by kind raw None log = unchanged code.malformed raw
stepped_by kind raw (Some x) log =
    cond (eqb kind kinds.flat) (stepped flat_raw raw x log)
    (cond (eqb kind kinds.lock) (stepped lock_raw raw x log)
    (cond (eqb kind kinds.counting) (stepped counting_raw raw x log)
    (cond (eqb kind kinds.flag) (stepped flag_raw raw x log) (unchanged code.malformed raw))))

-- ---------- the promise: the answer in numbers, and both buffers at exit

pub record Called : Type 0 where
  pub logged : ℕ
  pub code : ℕ

-- a refusal logs nothing
abbrev pub called : Result ℕ Refusal → Called
called r = record { logged = bytes_logged r; code = verdict_code r }

pub record StepLeaves (o : Stepped) (log : List ℕ) (r : Called) (raw' log' : List ℕ) : Type 0 where
  pub answer : r ≡ record { logged = length o.entry; code = o.code }
  pub state : raw' ≡ o.state
  pub entry : log' ≡ over o.entry log

-- ---------- the exported function: the entry's length goes, as four bytes, to a buffer of its own; where that has no room nothing is done, and the
-- answer is 8

pub record Exported : Type 0 where
  pub code : ℕ
  pub state : List ℕ
  pub log : List ℕ
  pub figures : List ℕ

unfoldable pub exported : ℕ → List ℕ → List ℕ → List ℕ → List ℕ → Exported
exported kind raw step log figures =
    cond (ltb (length figures) 4) (record { code = code.room; state = raw; log = log; figures = figures })
    (let o = stepped_by kind raw (asked_by step) log in
    record { code = o.code; state = o.state; log = over o.entry log; figures = over (big 4 (length o.entry)) figures })

pub record ExportLeaves (o : Exported) (r : ℕ) (raw' log' figures' : List ℕ) : Type 0 where
  pub code : r ≡ o.code
  pub state : raw' ≡ o.state
  pub log : log' ≡ o.log
  pub figures : figures' ≡ o.figures
