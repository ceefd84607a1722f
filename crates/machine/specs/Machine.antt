-- What a machine is, and when it accepts a step. Assumes nothing.
use Rattle.std.specs.Prelude.{◌≡◌, true, List, ℕ}
use Rattle.machine.specs.Check.{Check, first, All, rises}

-- three total functions: the tests of a step, the state after a step that passes them, and what that step logs
pub record Machine : Type 1 where
  pub State : Type 0
  pub Step : Type 0
  pub Entry : Type 0
  pub tests : State → Step → List Check
  pub next : State → Step → State
  pub logs : State → Step → List Entry
  -- the tests go by rising code, and no code is 0
  pub rising : (s : State) (x : Step) → rises 1 (tests s x) ≡ true

-- the code that a step gets: 0, or that of its first failing test
abbrev pub code_of : (m : Machine) → m.State → m.Step → ℕ
code_of m s x = first (m.tests s x)

-- a step is accepted if all its tests hold
abbrev pub Accepted : (m : Machine) → m.State → m.Step → Type 0
Accepted m s x = All (m.tests s x)
