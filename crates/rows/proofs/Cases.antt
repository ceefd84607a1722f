-- Proofs by cases of a test. Assumes nothing.
use mathlib.Core.Path.{◌≡◌, refl}
use mathlib.Core.Bool.{Bool, true, false, ◌&&◌}
use Prim.Native.Nat.{ℕ, ◌+◌}
use native.Mathlib.Omega.{arith}
use Rattle.rows.specs.Walk.{tick, bit}

-- the two cases of a test, each with its equation
pub on : {P : Type 0} (b : Bool) → (b ≡ true → P) → (b ≡ false → P) → P
on true f g = f refl
on false f g = g refl

-- a test that cannot hold fails
pub cannot : (b : Bool) → (b ≡ true → ⊥) → b ≡ false
cannot b n = on b (λ e. absurd (n e)) (λ e. e)

-- what cannot be
pub clash : {P : Type 0} → ◌≡◌ {A = ℕ} 0 1 → P
clash e = absurd (omega arith)

pub both_true : (a b : Bool) → (a && b) ≡ true → (a ≡ true) × (b ≡ true)
both_true true b e = (refl, e)
both_true false b e = clash (cc)

pub true_both : {a b : Bool} → a ≡ true → b ≡ true → (a && b) ≡ true
true_both p q = rw (p, q)

-- for omega: a test that does not compute counts as the unknown `bit b`
pub tick_bit : (b : Bool) (n : ℕ) → tick b n ≡ n + bit b
tick_bit true n = omega arith
tick_bit false n = omega arith
