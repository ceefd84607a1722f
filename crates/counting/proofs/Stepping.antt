-- A step applied in place to a sound state: what its transition answers is what the definition says. Assumes nothing.
use mathlib.Core.Path.{◌≡◌}
use mathlib.Core.Bool.{true}
use mathlib.Core.List.{List, []}
use Prim.Native.Nat.{ℕ}
use Rattle.std.specs.Prelude.{Ok}
use Rattle.machine.specs.Move.{as_moved}
use Rattle.machine.specs.Apply.{Accepts}
use Rattle.machine.proofs.Applied.{accepts_quiet}
use Rattle.schedule.specs.declared.steps.CountingStep.{CountingStep}
use Rattle.counting.specs.Counting.{counting, logs}
use Rattle.counting.specs.Moved.{moved}
use Rattle.counting.specs.Sound.{sound}
use Rattle.counting.specs.Image.{entry_bytes}
use Rattle.counting.specs.declared.state.State.{State}
use Rattle.counting.proofs.Arms.{moved_fair}

-- a step x of the form v that logs nothing, whose transition leads to d
pub silent_step : (s : State) (x v : CountingStep) (l : List ℕ) (d : State) → as_moved s (Ok d) ≡ moved s v → x ≡ v → logs s v ≡ [] → (at : ℕ) → sound s ≡ true
    → Accepts counting entry_bytes s x l at at d l
silent_step s x v l d w e q at safe = accepts_quiet counting entry_bytes s x v e l d (moved_fair s v safe (as_moved s (Ok d)) w) q at
