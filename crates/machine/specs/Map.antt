-- A map from numbers is a function to options: how the sources' maps are transcribed. Assumes nothing.
use Rattle.std.specs.Prelude.{ℕ, cond, eqb}
use Rattle.std.proofs.Math.Option.{Option, none, some}

abbrev pub Map : Type 0 → Type 0
Map A = ℕ → Option A

-- the value at one key replaced, and a key taken out
abbrev pub at_key : {A : Type 0} → ℕ → A → Map A → Map A
at_key j a m = λ i. cond (eqb i j) (some a) (m i)

abbrev pub without : {A : Type 0} → ℕ → Map A → Map A
without j m = λ i. cond (eqb i j) none (m i)
