-- The transitions on any state, also on one that no history leads to. Assumes nothing.
use Rattle.std.specs.Prelude.{Bool, true, ltb}
use Rattle.machine.specs.Move.{Moved, moving}
use Rattle.schedule.specs.Limits as limit
use Rattle.schedule.specs.declared.steps.CountingStep.{CountingStep}
use Rattle.schedule.specs.declared.steps.CountingStep.TheVariants.{WriteableToReadable, ReadableToWriteable, NewRef, DeleteRef}
use Rattle.counting.specs.Counting.{tests, next}
use Rattle.counting.specs.declared.state.State.{State}

-- the counters that the step moves can be moved: so in every sound state
abbrev pub movable : State → CountingStep → Bool
movable s (WriteableToReadable t) = true
movable s ReadableToWriteable = true
movable s NewRef = ltb s.refs limit.counter
movable s (DeleteRef t) = ltb 0 s.count

abbrev pub moved : State → CountingStep → Moved State
moved s x = moving (tests s x) (movable s x) (next s x) s
