-- Each public function's promise settles its answer: two answers that meet it are equal. Assumes nothing.
use mathlib.Core.Path.{◌≡◌, sym, ap, ◌∙◌}
use mathlib.Core.List.{[], ◌∷◌}
use Prim.Native.Nat.{ℕ}
use native.Mathlib.Omega.{arith}
use lib.Dec.{ltb}
use Rattle.std.specs.Prelude.{Result, Ok, Err}
use Rattle.rows.specs.Walk.{at_most}
use Rattle.rows.proofs.Settled.{settled}
use Rattle.machine.specs.Check.{need, first}
use Rattle.machine.specs.Codes as code
use Rattle.machine.specs.Refusals.{number, verdict_code}
use Rattle.machine.specs.Within.{PlaceOf}
use Rattle.machine.specs.declared.refusal.Refusal.{Refusal}
use Rattle.machine.proofs.Refusing.{verdict_tells}

pub code_settled : (why : Refusal) {r q : ℕ} → r ≡ number why → q ≡ number why → r ≡ q
code_settled why = settled

pub code_of_settled : (v : Result (Unit {0}) Refusal) {r q : ℕ} → r ≡ verdict_code v → q ≡ verdict_code v → r ≡ q
code_of_settled v = settled

pub inside_settled : (count n : ℕ) {r q : Result (Unit {0}) Refusal} → verdict_code r ≡ first (need code.outside (ltb n count) ∷ [])
    → verdict_code q ≡ first (need code.outside (ltb n count) ∷ []) → r ≡ q
inside_settled count n {r} {q} a b = verdict_tells r q (settled a b)

pub in_use_settled : (row n : ℕ) {r q : ℕ} → r ≡ at_most row n → q ≡ at_most row n → r ≡ q
in_use_settled row n = settled

pub place_settled : (row n : ℕ) (r q : Result ℕ Refusal) → PlaceOf row n r → PlaceOf row n q → r ≡ q
place_settled row n (Ok i) (Ok j) a b = ap Ok (a.0 ∙ sym b.0)
place_settled row n (Ok i) (Err y) a b = absurd (omega arith)
place_settled row n (Err x) (Ok j) a b = absurd (omega arith)
place_settled row n (Err x) (Err y) a b = ap Err (a.0 ∙ sym b.0)
