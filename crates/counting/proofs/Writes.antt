-- No step logs more than an entry's room, and an image is small. Assumes nothing.
use Prim.Native.Nat.{◌≤◌}
use native.Mathlib.Omega.{arith}
use lib.ListN.{length}
use Rattle.rows.specs.Walk.{pieces}
use Rattle.schedule.specs.Limits as limit
use Rattle.schedule.specs.declared.steps.CountingStep.{CountingStep}
use Rattle.schedule.specs.declared.steps.CountingStep.TheVariants.{WriteableToReadable, ReadableToWriteable, NewRef, DeleteRef}
use Rattle.counting.specs.Counting.{logs}
use Rattle.counting.specs.Image.{entry_bytes}
use Rattle.counting.specs.declared.state.State.{State}

-- a step logs one entry at most
pub logs_short : (s : State) (x : CountingStep) → length (pieces entry_bytes (logs s x)) ≤ limit.entry
logs_short s (WriteableToReadable t) = omega arith
logs_short s ReadableToWriteable = omega arith
logs_short s NewRef = omega arith
logs_short s (DeleteRef t) = omega arith
