-- A transition on one record: what a small function answers that makes the tests on this record and hands it back, moved or as it was; tests on
-- other records come before it. It takes any record; `fits` says that the moved record's numbers stay in their range, as they do in every sound
-- state, and else it is answered as unsound. Assumes nothing.
use Rattle.std.specs.Prelude.{Bool, cond, List, ℕ, eqb, Result, Ok, Err}
use Rattle.machine.specs.Codes as code
use Rattle.machine.specs.Check.{Check, first}
use Rattle.machine.specs.Refusals.{number, verdict_code}
use Rattle.machine.specs.declared.refusal.Refusal.{Refusal}

abbrev pub move_code : List Check → Bool → ℕ
move_code tests fits = cond (eqb (first tests) 0) (cond fits code.accepted code.unsound) (first tests)

abbrev pub move_to : {A : Type 0} → List Check → Bool → A → A → A
move_to tests fits to from = cond (eqb (first tests) 0) (cond fits to from) from

-- the record after a transition, moved or as it was, and the code
pub record Moved (A : Type 0) : Type 0 where
  pub to : A
  pub code : ℕ

abbrev pub moving : {A : Type 0} → List Check → Bool → A → A → Moved A
moving tests fits to from = record { to = move_to tests fits to from; code = move_code tests fits }

-- what a function answers that was given the record s: the record moved, or the reason of the refusal, and then the record stays as it was
abbrev pub as_moved : {A : Type 0} → A → Result A Refusal → Moved A
as_moved s (Ok to) = record { to = to; code = code.accepted }
as_moved s (Err why) = record { to = s; code = number why }

-- the same of a function that moves a record in place, and leaves the record s'
abbrev pub in_place : {A : Type 0} → Result (Unit {0}) Refusal → A → Moved A
in_place r s' = record { to = s'; code = verdict_code r }
