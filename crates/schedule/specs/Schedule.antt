-- What a file says: a schedule of one of the four kinds, or its one fault. And the file that says it. Assumes nothing.
use Rattle.std.specs.Prelude.{Ok, Err, ℕ, ◌≤◌, ◌<◌, ◌^◌, Bool, List, [], ◌∷◌, ◌++◌, map, length}
use mir.Val.{bool_byte}
use Rattle.rows.specs.Bytes.{big}
use Rattle.rows.specs.Walk.{pieces}
use Rattle.schedule.specs.Limits as limit
use Rattle.schedule.specs.Widths as kind
use Rattle.schedule.specs.Language.{Language, step_at, step_bytes, Writable}
use Rattle.schedule.specs.Spelling.{flat, lock, counting, flag}
use Rattle.schedule.specs.Reading.{Placed, broken, surplus, placed, places_from}
use Rattle.schedule.specs.Front.{opened_of, Opened}
use Rattle.schedule.specs.declared.steps.FlatStep.{FlatStep}
use Rattle.schedule.specs.declared.steps.LockStep.{LockStep}
use Rattle.schedule.specs.declared.steps.CountingStep.{CountingStep}
use Rattle.schedule.specs.declared.steps.FlagStep.{FlagStep}
use Rattle.schedule.specs.declared.steps.Params.{Params}
use Rattle.schedule.specs.declared.steps.Params.TheVariants.{Flat, Lock, Counting, Flag}
use Rattle.schedule.specs.declared.front.Fault.{Fault}
use Rattle.schedule.specs.declared.front.Fault.TheVariants.{Step, Surplus}

-- a kind with its parameters, and the steps
pub data Schedule : Type 0 where
  of_flat : ℕ → List FlatStep → Schedule
  of_lock : ℕ → ℕ → List LockStep → Schedule
  of_counting : List CountingStep → Schedule
  of_flag : ℕ → Bool → List FlagStep → Schedule

pub data Decoded : Type 0 where
  faulty : Fault → Decoded
  good : Schedule → Decoded

-- ---------- from the file to the schedule

-- the schedule that the steps of a language at their places make
abbrev pub with_steps : {S : Type 0} → Language S → List ℕ → (List S → Schedule) → Placed → Decoded
with_steps l f make (broken k) = faulty (Step k)
with_steps l f make surplus = faulty Surplus
with_steps l f make (placed ps) = good (make (map (step_at l f) ps))

-- behind parameters, from a place on
abbrev pub behind_params : List ℕ → Params → ℕ → Decoded
behind_params f (Flat n) at = with_steps flat f (of_flat n) (places_from kind.flat limit.steps f at 0)
behind_params f (Lock n t) at = with_steps lock f (of_lock n t) (places_from kind.lock limit.steps f at 0)
behind_params f Counting at = with_steps counting f of_counting (places_from kind.counting limit.steps f at 0)
behind_params f (Flag n v) at = with_steps flag f (of_flag n v) (places_from kind.flag limit.steps f at 0)

abbrev pub behind_front : List ℕ → Opened → Decoded
behind_front f (Err fault) = faulty fault
behind_front f (Ok o) = behind_params f o.params o.from

-- any list of bytes is a schedule, or has exactly one fault
unfoldable pub decode : List ℕ → Decoded
decode f = behind_front f (opened_of f)

-- ---------- from the schedule to the file

abbrev pub steps_bytes : {S : Type 0} → Language S → List S → List ℕ
steps_bytes l xs = pieces (step_bytes l) xs

-- the parameters of a schedule, how many steps it has, and their bytes
abbrev pub params_in : Schedule → Params
params_in (of_flat n xs) = Flat n
params_in (of_lock n t xs) = Lock n t
params_in (of_counting xs) = Counting
params_in (of_flag n v xs) = Flag n v

abbrev pub steps# : Schedule → ℕ
steps# (of_flat n xs) = length xs
steps# (of_lock n t xs) = length xs
steps# (of_counting xs) = length xs
steps# (of_flag n v xs) = length xs

abbrev pub all_steps : Schedule → List ℕ
all_steps (of_flat n xs) = steps_bytes flat xs
all_steps (of_lock n t xs) = steps_bytes lock xs
all_steps (of_counting xs) = steps_bytes counting xs
all_steps (of_flag n v xs) = steps_bytes flag xs

-- a kind's byte and its parameters, with which a body begins
abbrev pub front_bytes : Params → List ℕ
front_bytes (Flat n) = kind.flat ∷ n ∷ []
front_bytes (Lock n t) = kind.lock ∷ n ∷ big 4 t
front_bytes Counting = kind.counting ∷ []
front_bytes (Flag n v) = kind.flag ∷ n ∷ bool_byte v ∷ []

abbrev pub body : Schedule → List ℕ
body s = front_bytes (params_in s) ++ all_steps s

unfoldable pub encode : Schedule → List ℕ
encode s = 1 ∷ (big 2 (length (body s)) ++ body s)

-- ---------- which schedules have a file

-- few enough steps, each with numbers that fit
abbrev pub StepsFit : {S : Type 0} → Language S → List S → Type 0
StepsFit l [] = Unit {0}
StepsFit l (x ∷ xs) = Writable l x × StepsFit l xs

abbrev pub AllFit : Schedule → Type 0
AllFit (of_flat n xs) = StepsFit flat xs
AllFit (of_lock n t xs) = StepsFit lock xs
AllFit (of_counting xs) = StepsFit counting xs
AllFit (of_flag n v xs) = StepsFit flag xs

-- parameters that a file may have
abbrev pub Allowed : Params → Type 0
Allowed (Flat n) = n ≤ limit.clients
Allowed (Lock n t) = (1 ≤ n) × (n ≤ limit.width) × (t < 256 ^ 4)
Allowed Counting = Unit {0}
Allowed (Flag n v) = (1 ≤ n) × (n ≤ limit.threads)

-- parameters and step count in their limits, and all numbers fit
pub record InLimits (s : Schedule) : Type 0 where
  pub allowed : Allowed (params_in s)
  pub few : steps# s ≤ limit.steps
  pub fit : AllFit s
