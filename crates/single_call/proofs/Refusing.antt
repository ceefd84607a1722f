-- What the promise says of refusals: the state keeps every byte; an empty step is malformed, and so is one on a state of another length. Assumes nothing.
use mathlib.Core.Path.{◌≡◌, refl}
use mathlib.Core.Bool.{Bool, true, false, cond}
use mathlib.Core.List.{List, []}
use Prim.Native.Nat.{ℕ}
use borrow.Author.Tests.{ne_eqb}
use lib.Dec.{eqb}
use lib.ListN.{length}
use Rattle.machine.specs.Codes as code
use Rattle.schedule.specs.Widths as kinds
use Rattle.schedule.specs.Reading.{measured_at}
use Rattle.schedule.specs.Finding.{found_at}
use Rattle.schedule.specs.declared.steps.Step.{Step}
use Rattle.std.specs.Prelude.{Option, Some, None, Result, Err}
use Rattle.machine.specs.declared.refusal.Refusal.{Refusal}
use Rattle.machine.specs.declared.refusal.Refusal.TheVariants.{Malformed}
use Rattle.single_call.specs.Call.{asked_by, called, StepLeaves, Stepped, unchanged, Outcome, RawStepper, stepped_as, stepped, flat_raw, lock_raw, counting_raw, flag_raw, stepped_by}

-- a refusal keeps the state
pub record Keeps (raw : List ℕ) (o : Stepped) : Type 0 where
  pub kept : (o.code ≡ 0 → ⊥) → o.state ≡ raw

malformed_keeps : (raw : List ℕ) → Keeps raw (unchanged code.malformed raw)
malformed_keeps raw = record { kept = λ h. refl }

-- a choice keeps what both sides keep
either_keeps : (b : Bool) (raw : List ℕ) (o o' : Stepped) → Keeps raw o → Keeps raw o' → Keeps raw (cond b o o')
either_keeps true raw o o' k l = k
either_keeps false raw o o' k l = l

-- any machine's single step
module _ {S X : Type 0} (w : RawStepper S X) (raw : List ℕ) where
  answer_keeps : (o : Outcome S) → Keeps raw (stepped_as w raw o)
  answer_keeps o = record { kept = λ h. rw (ne_eqb o.code 0 h) }

  step_keeps : (x : X) (log : List ℕ) → Keeps raw (stepped w raw x log)
  step_keeps x log =
      either_keeps (eqb (length raw) w.long) raw (stepped_as w raw (w.single (w.from raw) x log)) (unchanged code.malformed raw)
      (answer_keeps (w.single (w.from raw) x log)) (malformed_keeps raw)

  -- a state of another length
  pub wrong_length_lem : (x : X) (log : List ℕ) (r : Result ℕ Refusal) → (length raw ≡ w.long → ⊥) → r ≡ Err Malformed
      → StepLeaves (stepped w raw x log) log (called r) raw log
  wrong_length_lem x log r h e = rw (ne_eqb (length raw) w.long h, e) (record { answer = refl; state = refl; entry = refl })

-- so a refused call keeps every byte of the state
pub call_keeps : (kind : ℕ) (raw : List ℕ) (q : Option Step) (log : List ℕ) → Keeps raw (stepped_by kind raw q log)
call_keeps kind raw None log = malformed_keeps raw
call_keeps kind raw (Some x) log =
    either_keeps (eqb kind kinds.flat) raw (stepped flat_raw raw x log) _ (step_keeps flat_raw raw x log)
    (either_keeps (eqb kind kinds.lock) raw (stepped lock_raw raw x log) _ (step_keeps lock_raw raw x log)
    (either_keeps (eqb kind kinds.counting) raw (stepped counting_raw raw x log) _ (step_keeps counting_raw raw x log)
    (either_keeps (eqb kind kinds.flag) raw (stepped flag_raw raw x log) (unchanged code.malformed raw) (step_keeps flag_raw raw x log) (malformed_keeps raw))))

-- an empty step is none
pub empty_step : asked_by [] ≡ None
unfolding found_at measured_at
empty_step = refl
