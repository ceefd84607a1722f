-- A fresh machine asked for, told in numbers. Assumes nothing.
use Rattle.std.specs.Prelude.{ℕ}
use Rattle.machine.specs.Refusals.{verdict_code}
use Rattle.machine.specs.declared.made.Made.{Made}

pub record Fresh (S : Type 0) : Type 0 where
  pub state : S
  pub code : ℕ

abbrev pub made_by : {S : Type 0} → Made S → Fresh S
made_by m = record { state = m.state; code = verdict_code m.verdict }
