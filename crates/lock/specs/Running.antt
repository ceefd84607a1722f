-- The shift lock with its files, for a run of steps; and each step on the state, made in place. Assumes nothing.
use Rattle.std.specs.Prelude.{◌≡◌, Result, Ok, Err}
use Rattle.machine.specs.Machine.{code_of}
use Rattle.machine.specs.Refusals.{number}
use Rattle.machine.specs.declared.refusal.Refusal.{Refusal}
use Rattle.schedule.specs.Running.{Runner}
use Rattle.schedule.specs.Spelling as spelled
use Rattle.schedule.specs.declared.steps.LockStep.{LockStep}
use Rattle.lock.specs.Lock.{lock, next}
use Rattle.lock.specs.Image.{entry_bytes, image_bytes}
use Rattle.lock.specs.Refined.{Sound}
use Rattle.lock.specs.declared.state.State.{State}

-- a run starts from a sound state
abbrev pub runner : Runner
runner = record { machine = lock; language = spelled.lock; bytes = entry_bytes; image = image_bytes; Good = Sound }

-- the step is accepted and the state s' is the one after it, or it is refused with its own code and the state stays
abbrev pub Steps : State → LockStep → Result (Unit {0}) Refusal → State → Type 0
Steps s x (Ok u) s' = (code_of lock s x ≡ 0) × (s' ≡ next s x)
Steps s x (Err why) s' = (number why ≡ code_of lock s x) × (s' ≡ s)
