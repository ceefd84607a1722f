-- What stands at a place of a file of any kind. Assumes nothing.
use Rattle.std.specs.Prelude.{ℕ, cond, List, eqb, Option, Some, None, Result, Ok, Err}
use Rattle.schedule.specs.Widths as kinds
use Rattle.schedule.specs.Language.{step_at}
use Rattle.schedule.specs.Spelling.{flat, lock, counting, flag}
use Rattle.schedule.specs.Reading.{Measured, measured_at}
use Rattle.schedule.specs.declared.lengths.Broken as lengths
use Rattle.schedule.specs.declared.steps.Step.{Step}
use Rattle.schedule.specs.declared.steps.Step.TheVariants.{Flat, Lock, Counting, Flag}
use Rattle.schedule.specs.declared.read.Found as read

-- the step with the place after it, or none where nothing more stands there
abbrev pub Found : Type 0
Found = Result (Option read.Found) lengths.Broken

-- the step of a kind that stands there: only kinds 1 to 4 have steps
abbrev pub any_at : ℕ → List ℕ → ℕ → Step
any_at kind f at =
    cond (eqb kind kinds.flat) (Flat (step_at flat f at))
    (cond (eqb kind kinds.lock) (Lock (step_at lock f at))
    (cond (eqb kind kinds.counting) (Counting (step_at counting f at))
    (Flag (step_at flag f at))))

abbrev pub found : Step → Measured → Found
found x (Ok None) = Ok None
found x (Err none) = Err none
found x (Ok (Some next)) = Ok (Some (record { step = x; next = next }))

unfoldable pub found_at : ℕ → List ℕ → ℕ → Found
found_at kind f at = found (any_at kind f at) (measured_at kind f at)
