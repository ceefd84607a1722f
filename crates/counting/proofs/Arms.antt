-- What each step comes to in the whole state: its code, and the state after it or the same. The single step and the replay loop both cite it. Assumes nothing.
use mathlib.Core.Path.{◌≡◌, refl}
use mathlib.Core.Bool.{true}
use Rattle.machine.specs.Move.{Moved}
use Rattle.machine.proofs.Steps.{code_accepted}
use Rattle.machine.proofs.Fair.{Fair, fair}
use Rattle.schedule.specs.declared.steps.CountingStep.{CountingStep}
use Rattle.counting.specs.Counting.{counting, tests, next}
use Rattle.counting.specs.Moved.{movable, moved}
use Rattle.counting.specs.Sound.{sound}
use Rattle.counting.specs.declared.state.State.{State}
use Rattle.counting.proofs.Moved.{movable_in}

pub moved_fair : (s : State) (x : CountingStep) → sound s ≡ true → (m : Moved State) → m ≡ moved s x → Fair counting s x m.code m.to
moved_fair s x safe m e =
    rw e (fair counting s x (λ q. q) (tests s x) (movable s x) (next s x) s refl (λ z. movable_in s x safe (code_accepted counting s x z)) refl refl)
