-- Where the steps of a file stand: code 6 for the first that is malformed, code 7 for bytes behind the last that a file may have. Assumes nothing.
use Rattle.std.specs.Prelude.{ℕ, zero, suc, ◌+◌, cond, List, [], ◌∷◌, eqb, ltb, leb, length, get_or, Option, Some, None, Result, Ok, Err}
use Rattle.schedule.specs.Widths.{length_of}
use Rattle.schedule.specs.declared.lengths.Broken as lengths

-- the place after the step that stands at a place, or none where nothing more does
abbrev pub Measured : Type 0
Measured = Result (Option ℕ) lengths.Broken

-- the three of them
abbrev pub none_left : Measured
none_left = Ok None

abbrev pub no_step : Measured
no_step = Err (record {})

abbrev pub reaches : ℕ → Measured
reaches next = Ok (Some next)

-- a step is broken whose length is 0, reaches past the file's end, or is not its tag's (no tag that is unknown has a length)
unfoldable pub measured_at : ℕ → List ℕ → ℕ → Measured
measured_at kind f at =
    cond (leb (length f) at) none_left
    (cond (eqb (get_or f at 0) 0) no_step
    (cond (ltb (length f) (at + 1 + get_or f at 0)) no_step
    (cond (eqb (length_of kind (get_or f (at + 1) 0)) (get_or f at 0)) (reaches (at + 1 + get_or f at 0)) no_step)))

-- the places at which the steps stand, or what is wrong
pub data Placed : Type 0 where
  broken : ℕ → Placed
  surplus : Placed
  placed : List ℕ → Placed

abbrev pub and : ℕ → Placed → Placed
and at (broken k) = broken k
and at surplus = surplus
and at (placed ps) = placed (at ∷ ps)

abbrev pub by_measure : (ℕ → Placed) → ℕ → ℕ → Measured → Placed
by_measure go at k (Ok None) = placed []
by_measure go at k (Err none) = broken k
by_measure go at k (Ok (Some next)) = and at (go next)

-- at most n more steps from `at` on, the first of them number k
unfoldable pub places_from : ℕ → ℕ → List ℕ → ℕ → ℕ → Placed
places_from kind zero f at k = cond (ltb at (length f)) surplus (placed [])
places_from kind (suc n) f at k = by_measure (λ next. places_from kind n f next (k + 1)) at k (measured_at kind f at)
