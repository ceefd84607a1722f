-- Each public function's promise settles its answer: two answers that meet it are equal. Assumes nothing.
use mathlib.Core.Path.{◌≡◌, ap}
use mathlib.Core.List.{List}
use Prim.Native.Nat.{ℕ}
use Rattle.rows.proofs.Settled.{settled}
use Rattle.std.specs.Prelude.{Result}
use Rattle.machine.specs.Single.{InNumbers}
use Rattle.machine.specs.declared.refusal.Refusal.{Refusal}
use Rattle.machine.specs.declared.single.Answer.{Answer}
use Rattle.machine.proofs.Refusing.{answer_tells}
use Rattle.single_call.specs.Call.{asked_by, stepped_by, Called, called, StepLeaves, exported, ExportLeaves}

-- what is told in numbers settles the answer
called_tells : (r q : Result ℕ Refusal) → called r ≡ called q → r ≡ q
called_tells r q e =
    let with : Called → InNumbers (Unit {0}) = λ c. record { state = tt; place = 0; logged = c.logged; code = c.code } in
    ap (λ (a : Answer (Unit {0})). a.logged) (answer_tells (record { state = tt; logged = r }) (record { state = tt; logged = q }) (ap with e))

pub single_call_settled : (kind : ℕ) (raw step log : List ℕ) {r q : Result ℕ Refusal} {raw₁ raw₂ log₁ log₂ : List ℕ}
    → StepLeaves (stepped_by kind raw (asked_by step) log) log (called r) raw₁ log₁ → StepLeaves (stepped_by kind raw (asked_by step) log) log (called q) raw₂ log₂
    → (r ≡ q) × (raw₁ ≡ raw₂) × (log₁ ≡ log₂)
single_call_settled kind raw step log a b = (called_tells _ _ (settled a.answer b.answer), settled a.state b.state, settled a.entry b.entry)

pub ladlecomet_single_settled : (kind : ℕ) (raw step log figures : List ℕ) {r q : ℕ} {raw₁ raw₂ log₁ log₂ figures₁ figures₂ : List ℕ}
    → ExportLeaves (exported kind raw step log figures) r raw₁ log₁ figures₁ → ExportLeaves (exported kind raw step log figures) q raw₂ log₂ figures₂
    → (r ≡ q) × (raw₁ ≡ raw₂) × (log₁ ≡ log₂) × (figures₁ ≡ figures₂)
ladlecomet_single_settled kind raw step log figures a b =
    (settled a.code b.code, settled a.state b.state, settled a.log b.log, settled a.figures b.figures)
