-- What the single step promises: `Singled` of machine/specs/Single.antt, for this machine. Assumes nothing.
use Rattle.std.specs.Prelude.{List, ℕ}
use Rattle.std.proofs.Math.Option.{Option, none, some}
use Rattle.machine.specs.Single as general
use Rattle.machine.specs.Single.{Stepper, InNumbers}
use Rattle.schedule.specs.Limits as limit
use Rattle.schedule.specs.declared.steps.CountingStep.{CountingStep}
use Rattle.schedule.specs.declared.steps.Step.{Step}
use Rattle.schedule.specs.declared.steps.Step.TheVariants.{Flat, Lock, Counting, Flag}
use Rattle.counting.specs.Counting.{counting}
use Rattle.counting.specs.Sound.{sound}
use Rattle.counting.specs.Image.{entry_bytes}
use Rattle.counting.specs.declared.state.State.{State}

-- a step of this kind, or none
abbrev pub own : Step → Option CountingStep
own (Flat x) = none
own (Lock x) = none
own (Counting x) = some x
own (Flag x) = none

abbrev pub stepper : Stepper counting
stepper = record { Any = Step; own = own; sound = sound; room = limit.entry; bytes = entry_bytes }

abbrev pub Singled : State → Step → List ℕ → InNumbers State → List ℕ → Type 0
Singled s x l r l' = general.Singled stepper s x l r l'

abbrev pub Applied : State → CountingStep → List ℕ → InNumbers State → List ℕ → Type 0
Applied s x l r l' = general.Applied stepper s x l r l'
