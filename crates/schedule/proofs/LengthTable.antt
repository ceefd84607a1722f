-- The code's table of step lengths says what the widths say: one computed test over the whole table. Assumes nothing.
use mathlib.Core.Path.{◌≡◌, refl}
use mathlib.Core.Bool.{Bool, true}
use mathlib.Core.List.{List, [], ◌∷◌}
use Prim.Native.Nat.{ℕ}
use lib.Dec.{eqb}
use Rattle.rows.specs.Walk.{every}
use Rattle.rows.proofs.Tables.{every_row}
use Rattle.schedule.specs.Widths.{widths, widths_of, length_of, tags}

-- the table as it stands in src/lengths.rt
abbrev pub lengths : List (List ℕ)
lengths =
    (0 ∷ 0 ∷ 0 ∷ 0 ∷ 0 ∷ 0 ∷ 0 ∷ 0 ∷ 0 ∷ [])
    ∷ (0 ∷ 10 ∷ 2 ∷ 1 ∷ 1 ∷ 1 ∷ 9 ∷ 1 ∷ 1 ∷ [])
    ∷ (0 ∷ 1 ∷ 1 ∷ 1 ∷ 5 ∷ 2 ∷ 2 ∷ 6 ∷ 0 ∷ [])
    ∷ (0 ∷ 5 ∷ 1 ∷ 1 ∷ 5 ∷ 0 ∷ 0 ∷ 0 ∷ 0 ∷ [])
    ∷ (0 ∷ 2 ∷ 2 ∷ 2 ∷ 0 ∷ 0 ∷ 0 ∷ 0 ∷ 0 ∷ [])
    ∷ []

abbrev pub right : ℕ → ℕ → ℕ → Bool
right k t x = eqb x (length_of k t)

pub computed : every (every_row right tags) 0 lengths ≡ true
unfolding widths_of widths
computed = refl
