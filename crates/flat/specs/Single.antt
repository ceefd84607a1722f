-- What the single step promises: `Singled` of machine/specs/Single.antt, for this machine. Assumes nothing.
use Rattle.std.specs.Prelude.{◌≡◌, true, List, ℕ, Result}
use Rattle.std.proofs.Math.Option.{Option, none, some}
use Rattle.machine.specs.Single as general
use Rattle.machine.specs.Single.{Stepper, InNumbers, told}
use Rattle.machine.specs.Refusals.{verdict_code}
use Rattle.machine.specs.declared.refusal.Refusal.{Refusal}
use Rattle.schedule.specs.Limits as limit
use Rattle.schedule.specs.declared.steps.FlatStep.{FlatStep}
use Rattle.schedule.specs.declared.steps.Step.{Step}
use Rattle.schedule.specs.declared.steps.Step.TheVariants.{Flat, Lock, Counting, Flag}
use Rattle.flat.specs.Flat.{flat}
use Rattle.flat.specs.Sound.{sound}
use Rattle.flat.specs.Image.{entry_bytes}
use Rattle.flat.specs.declared.state.State.{State}

-- a step of this kind, or none
abbrev pub own : Step → Option FlatStep
own (Flat x) = some x
own (Lock x) = none
own (Counting x) = none
own (Flag x) = none

abbrev pub stepper : Stepper flat
stepper = record { Any = Step; own = own; sound = sound; room = limit.entry; bytes = entry_bytes }

abbrev pub Singled : State → Step → List ℕ → InNumbers State → List ℕ → Type 0
Singled s x l r l' = general.Singled stepper s x l r l'

abbrev pub quietly : State → FlatStep → InNumbers State
quietly s x = general.quietly stepper s x

-- what a step that logs nothing answers and leaves of a sound state: its code, and the state after it or the same
abbrev pub Quietly : State → FlatStep → Result (Unit {0}) Refusal → State → Type 0
Quietly s x r s' = sound s ≡ true → told s' 0 (verdict_code r) ≡ quietly s x
