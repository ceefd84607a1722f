-- Files and schedules are one to one: what is proved of `decode`, `encode` and the table of faults in proofs/Canonical.antt. Assumes nothing.
use Rattle.std.specs.Prelude.{◌≡◌, ◌⊎◌, List, ℕ}
use Rattle.rows.specs.Bytes.{Bytes}
use Rattle.schedule.specs.Schedule.{Schedule, good, decode, encode, steps#, InLimits}
use Rattle.schedule.specs.Given.{WellFormed, HasFault}
use Rattle.schedule.specs.declared.front.Fault.{Fault}

-- a file that reads soundly, written again, gives the same bytes
abbrev pub WrittenAgain : Type 0
WrittenAgain = (f : List ℕ) (s : Schedule) → Bytes f → decode f ≡ good s → encode s ≡ f

-- a schedule in its limits reads back as itself
abbrev pub ReadBack : Type 0
ReadBack = (s : Schedule) → InLimits s → decode (encode s) ≡ good s

-- and only such schedules are read
abbrev pub OnlyInLimits : Type 0
OnlyInLimits = (f : List ℕ) (s : Schedule) → Bytes f → decode f ≡ good s → InLimits s

-- ---------- with no reader: bytes, the table of faults, and the files of schedules

-- f is the file of this schedule, which is in its limits
pub record FileOf (f : List ℕ) (s : Schedule) : Type 0 where
  pub written : encode s ≡ f
  pub within : InLimits s

-- f has exactly one fault, or is the file of exactly one schedule
pub record Sorted (f : List ℕ) : Type 0 where
  pub either : ((x : Fault) × HasFault f x) ⊎ ((s : Schedule) × FileOf f s)
  pub one_fault : (x y : Fault) → HasFault f x → HasFault f y → x ≡ y
  pub one_schedule : (s t : Schedule) → FileOf f s → FileOf f t → s ≡ t
  pub never_both : (x : Fault) (s : Schedule) → HasFault f x → FileOf f s → ⊥
  -- and as many whole steps stand in f as the schedule has
  pub whole_steps : (s : Schedule) → FileOf f s → WellFormed f (steps# s)

abbrev pub AllSorted : Type 0
AllSorted = (f : List ℕ) → Bytes f → Sorted f
