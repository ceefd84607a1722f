-- A byte that no kind has is no machine's, whatever the step's bytes ask for. Assumes nothing.
use mathlib.Core.Path.{◌≡◌, refl}
use mathlib.Core.List.{List}
use Prim.Native.Nat.{ℕ}
use borrow.Author.Tests.{ne_eqb}
use Rattle.std.specs.Prelude.{Option, Some, None, Err}
use Rattle.machine.specs.declared.refusal.Refusal.TheVariants.{Malformed}
use Rattle.schedule.specs.Widths as kinds
use Rattle.schedule.specs.Kinds.{number}
use Rattle.schedule.specs.declared.kinds.Kind.{Kind}
use Rattle.schedule.specs.declared.kinds.Kind.TheVariants.{Flat, Lock, Counting, Flag}
use Rattle.schedule.specs.declared.steps.Step.{Step}
use Rattle.single_call.specs.Call.{called, StepLeaves, stepped_by}

pub no_kind : (kind : ℕ) → ((k : Kind) → kind ≡ number k → ⊥) → (raw : List ℕ) (q : Option Step) (log : List ℕ)
    → StepLeaves (stepped_by kind raw q log) log (called (Err Malformed)) raw log
no_kind kind none raw None log = record { answer = refl; state = refl; entry = refl }
no_kind kind none raw (Some x) log =
    rw (ne_eqb kind kinds.flat (none Flat), ne_eqb kind kinds.lock (none Lock), ne_eqb kind kinds.counting (none Counting), ne_eqb kind kinds.flag (none Flag))
    (record { answer = refl; state = refl; entry = refl })
