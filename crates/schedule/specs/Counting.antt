-- How many steps a file has from a place on, or its fault. Assumes nothing.
use Rattle.std.specs.Prelude.{ℕ, ◌+◌, List, length, Result, Ok, Err}
use Rattle.schedule.specs.Limits as limit
use Rattle.schedule.specs.Reading.{Placed, broken, surplus, placed, places_from}
use Rattle.schedule.specs.declared.front.Fault.{Fault}
use Rattle.schedule.specs.declared.front.Fault.TheVariants.{Step, Surplus}

-- the number of steps, or the fault among them
abbrev pub Counted : Type 0
Counted = Result ℕ Fault

-- k steps and those of the places
abbrev pub counted : ℕ → Placed → Counted
counted k (broken i) = Err (Step i)
counted k surplus = Err Surplus
counted k (placed ps) = Ok (k + length ps)

unfoldable pub counted_of : ℕ → List ℕ → ℕ → Counted
counted_of kind f from = counted 0 (places_from kind limit.steps f from 0)
