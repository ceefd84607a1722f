-- A step made in place, refused or accepted. Assumes nothing.
use mathlib.Core.Path.{◌≡◌, refl, sym}
use mathlib.Core.List.{List, []}
use Prim.Native.Nat.{ℕ}
use Rattle.std.specs.Prelude.{Result, Ok, Err}
use Rattle.std.specs.Result.{IsErrAnd}
use Rattle.machine.specs.Machine.{code_of}
use Rattle.machine.specs.Refusals.{number}
use Rattle.machine.specs.Apply.{Accepts}
use Rattle.machine.specs.declared.refusal.Refusal.{Refusal}
use Rattle.machine.proofs.Fair.{Fair}
use Rattle.machine.proofs.Applied.{accepts_quiet}
use Rattle.schedule.specs.declared.steps.LockStep.{LockStep}
use Rattle.lock.specs.Lock.{lock, logs}
use Rattle.lock.specs.Image.{entry_bytes}
use Rattle.lock.specs.Running.{Steps}
use Rattle.lock.specs.declared.state.State.{State}

-- refused: the reason that a test gave, handed on by a `?`
pub kept : (s : State) (x : LockStep) (r : Result (Unit {0}) Refusal) (why : Refusal) → IsErrAnd r (λ y. y ≡ why) → number why ≡ code_of lock s x → Steps s x r s
kept s x (Ok u) why e own = absurd e
kept s x (Err y) why e own = (rw e own, refl)

-- accepted, and with a log: a step x of the form v, which logs nothing
pub quiet : (s : State) (x v : LockStep) → x ≡ v → (l : List ℕ) (at : ℕ) (u : Unit {0}) (s' : State) → Steps s v (Ok u) s' → logs s v ≡ []
    → Accepts lock entry_bytes s x l at at s' l
quiet s x v e l at u s' d n =
    let stands : Fair lock s v 0 s' = record { own = sym d.0; went = λ z. d.1; stayed = λ k. absurd (k refl) } in
    accepts_quiet lock entry_bytes s x v e l s' stands n at
