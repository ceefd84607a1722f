-- What one step of any machine answers: accepted exactly if all its tests hold, refused exactly with the code of the first that fails. Assumes nothing.
use mathlib.Core.Path.{◌≡◌}
use Prim.Native.Nat.{ℕ}
use Rattle.machine.specs.Check.{FailsAt}
use Rattle.machine.specs.Machine.{Machine, code_of, Accepted}
use Rattle.machine.proofs.Checks.{first_all, all_first, first_fails, fails_first, fails_nonzero}

module _ (m : Machine) (s : m.State) (x : m.Step) where
  pub accepted_code : Accepted m s x → code_of m s x ≡ 0
  accepted_code a = first_all (m.tests s x) a

  pub code_accepted : code_of m s x ≡ 0 → Accepted m s x
  code_accepted e = all_first (m.tests s x) (m.rising s x) e

  -- so a code is answered exactly when the tests before hold and a test with this code fails
  pub code_fails : (c : ℕ) → code_of m s x ≡ c → (c ≡ 0 → ⊥) → FailsAt (m.tests s x) c
  code_fails c e z = first_fails (m.tests s x) c e z

  pub fails_code : (c : ℕ) → FailsAt (m.tests s x) c → (code_of m s x ≡ c) × (c ≡ 0 → ⊥)
  fails_code c f = (fails_first (m.tests s x) c f, fails_nonzero (m.tests s x) c (m.rising s x) f)
