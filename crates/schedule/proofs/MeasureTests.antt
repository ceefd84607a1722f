-- How far the step at a place reaches, test by test as the code makes them. Assumes nothing.
use mathlib.Core.Path.{◌≡◌, sym, ◌∙◌}
use mathlib.Core.List.{List}
use Prim.Native.Nat.{ℕ, ◌+◌, ◌-◌, ◌≤◌, ◌<◌}
use native.Mathlib.Omega.{arith}
use borrow.Author.Tests.{le-leb, lt-leb, lt-ltb, le-ltb, eq-eqb, ne_eqb}
use lib.ListN.{length, get_or}
use Rattle.schedule.specs.Widths.{length_of, RowOf, tags}
use Rattle.schedule.specs.Reading.{measured_at}
use Rattle.schedule.proofs.InTable.{no_length}
use Rattle.schedule.specs.Reading.{none_left, no_step, reaches}

module _ (kind : ℕ) (f : List ℕ) (at : ℕ) where
  pub at_end : length f ≤ at → none_left ≡ measured_at kind f at
  unfolding measured_at
  at_end h = rw (le-leb _ _ h)

  -- n is the length byte
  module _ (inside : at < length f) (n : ℕ) (e : n ≡ get_or f at 0) where
    pub at_zero : n ≡ 0 → no_step ≡ measured_at kind f at
    unfolding measured_at
    at_zero z = rw (lt-leb _ _ inside, ← e, eq-eqb _ _ z)

    module _ (some : n ≡ 0 → ⊥) where
      pub at_past : length f - (at + 1) < n → no_step ≡ measured_at kind f at
      unfolding measured_at
      at_past h = let p : length f < at + 1 + n = omega arith in rw (lt-leb _ _ inside, ← e, ne_eqb _ _ some, lt-ltb _ _ p)

      module _ (room : n ≤ length f - (at + 1)) (m : ℕ) (table : m ≡ length_of kind (get_or f (at + 1) 0)) where
        pub at_whole : m ≡ n → reaches (at + 1 + n) ≡ measured_at kind f at
        unfolding measured_at
        at_whole o =
            let p : at + 1 + n ≤ length f = omega arith in
            rw (lt-leb _ _ inside, ← e, ne_eqb _ _ some, le-ltb _ _ p, eq-eqb _ _ (sym table ∙ o))

        pub at_other : (m ≡ n → ⊥) → no_step ≡ measured_at kind f at
        unfolding measured_at
        at_other o =
            let p : at + 1 + n ≤ length f = omega arith in
            rw (lt-leb _ _ inside, ← e, ne_eqb _ _ some, le-ltb _ _ p, ne_eqb _ _ (λ q. o (table ∙ q)))

      -- the same by the kind's row, which has no length for a tag t past it
      module _ (room : n ≤ length f - (at + 1)) (t : ℕ) (tag : t ≡ get_or f (at + 1) 0) where
        pub at_unknown : tags ≤ t → no_step ≡ measured_at kind f at
        at_unknown h = at_other room 0 (rw (← tag) (no_length kind t h)) (λ o. some (sym o))

        module _ (row : List ℕ) (table : RowOf kind row) (known : t < tags) (own : ℕ) (there : own ≡ get_or row t 0) where
          length_own : own ≡ length_of kind (get_or f (at + 1) 0)
          length_own = rw (← tag) (there ∙ table.at t known)

          pub row_whole : own ≡ n → reaches (at + 1 + n) ≡ measured_at kind f at
          row_whole = at_whole room own length_own

          pub row_other : (own ≡ n → ⊥) → no_step ≡ measured_at kind f at
          row_other = at_other room own length_own
