-- A number as a place of a row. Assumes nothing.
use Rattle.std.specs.Prelude.{◌≡◌, ◌≤◌, ◌<◌, ℕ, Result, Ok, Err}
use Rattle.machine.specs.declared.refusal.Refusal.{Refusal}
use Rattle.machine.specs.declared.refusal.Refusal.TheVariants.{Unsound}

-- the number itself, or refused where the row ends before it
abbrev pub PlaceOf : ℕ → ℕ → Result ℕ Refusal → Type 0
PlaceOf row n (Ok i) = (i ≡ n) × (i < row)
PlaceOf row n (Err why) = (why ≡ Unsound) × (row ≤ n)
