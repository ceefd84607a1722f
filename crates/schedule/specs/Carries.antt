-- What the laws of a run ask of a machine and its language. Assumes nothing.
use Rattle.std.specs.Prelude.{◌≡◌, ◌≤◌, ℕ, Bool, true, length, Result, Ok, Err}
use Rattle.std.proofs.Math.Option.{Option}
use Rattle.rows.specs.Walk.{pieces}
use Rattle.machine.specs.Machine.{code_of}
use Rattle.machine.specs.Single.{Stepper}
use Rattle.machine.specs.declared.refusal.Refusal.{Refusal}
use Rattle.schedule.specs.Limits as limit
use Rattle.schedule.specs.Lawful.{Lawful}
use Rattle.schedule.specs.Running.{Runner}
use Rattle.schedule.specs.declared.steps.Step.{Step}

-- what a machine has of its own for the laws of a run: its language is lawful, a step logs little, an image is small, and an accepted step leads from a
-- state that a run may start from to another
pub record Carries (p : Runner) : Type 0 where
  pub lawful : Lawful p.language
  pub short : (q : p.machine.State) (x : p.machine.Step) → length (pieces p.bytes (p.machine.logs q x)) ≤ limit.entry
  pub small : (q : p.machine.State) → length (p.image q) ≤ limit.image
  pub kept : (q : p.machine.State) (x : p.machine.Step) → code_of p.machine q x ≡ 0 → p.Good q → p.Good (p.machine.next q x)

-- the test of a made-up state, here s, passes exactly those that a run may start from. That one passed may is known of states that code holds alone: the
-- test leaves out what their types tell, as how long a row is
pub record Tells (p : Runner) (sound : p.machine.State → Bool) (s : p.machine.State) : Type 0 where
  pub means : sound s ≡ true → p.Good s
  pub holds : (q : p.machine.State) → p.Good q → sound q ≡ true

-- the single step of a machine, with its test and its steps among those of all kinds
abbrev pub stepper_of : (p : Runner) → (Step → Option p.machine.Step) → (p.machine.State → Bool) → Stepper p.machine
stepper_of p own sound = record { Any = Step; own = own; sound = sound; room = limit.entry; bytes = p.bytes }

-- of what a turn of the replay answers, the size of its step and the place behind its entries: the place, or the refusal
abbrev pub logged_at : Result (ℕ × ℕ) Refusal → Result ℕ Refusal
logged_at (Ok t) = Ok t.1
logged_at (Err why) = Err why

-- and the size is n, where the step is accepted
abbrev pub Sized : ℕ → Result (ℕ × ℕ) Refusal → Type 0
Sized n (Ok t) = t.0 ≡ n
Sized n (Err why) = Unit {0}
