-- What the code's table of step lengths has is what the widths say, and what it does not have is no step. Assumes nothing.
use mathlib.Core.Path.{◌≡◌, refl, ◌∙◌}
use mathlib.Core.Bool.{Bool, true, false}
use mathlib.Core.List.{List, []}
use Prim.Native.Nat.{ℕ, ◌≤◌, ◌<◌}
use native.Mathlib.Omega.{arith}
use borrow.Author.Tests.{eqb-true, leb-true, leb-false}
use lib.Dec.{leb}
use lib.ListN.{length, get_or, get_or-eq_default}
use Rattle.rows.specs.Walk.{every}
use Rattle.rows.proofs.Walks.{every_at}
use Rattle.rows.proofs.Tables.{table_at}
use Rattle.schedule.specs.Widths.{widths, widths_of, length_of, RowOf, kinds, tags}
use Rattle.schedule.proofs.LengthTable.{lengths, right, computed}

pub in_table : (k t : ℕ) → k < kinds → t < tags → get_or (get_or lengths k []) t 0 ≡ length_of k t
in_table k t h l = eqb-true (get_or (get_or lengths k []) t 0) (length_of k t) (table_at right tags lengths 0 computed k t h l)

-- what the table does not have is no step
pub no_kind : (k t : ℕ) → kinds ≤ k → 0 ≡ length_of k t
unfolding widths_of widths
no_kind k t h = rw (get_or-eq_default widths [] h)

-- and so the row of zeros is that of no kind
pub no_row : (k t : ℕ) → kinds ≤ k → t < tags → get_or (get_or lengths 0 []) t 0 ≡ length_of k t
unfolding widths_of widths
no_row k t h l = in_table 0 t (omega arith) l ∙ no_kind k t h

within : every (λ (k : ℕ) (row : List (List ℕ)). leb (length row) tags) 0 widths ≡ true
unfolding widths
within = refl

pub no_tag : (k t : ℕ) → k < kinds → tags ≤ t → 0 ≡ length_of k t
unfolding widths_of widths
no_tag k t h l =
    let short : length (get_or widths k []) ≤ tags = leb-true _ _ (every_at (λ (k : ℕ) (row : List (List ℕ)). leb (length row) tags) [] widths within k h) in
    let past : length (get_or widths k []) ≤ t = omega arith in
    rw (get_or-eq_default (get_or widths k []) [] past)

-- so a tag past the table has no length, whatever the kind
module _ (k t : ℕ) (l : tags ≤ t) where
  by_kind : (b : Bool) → leb kinds k ≡ b → 0 ≡ length_of k t
  by_kind true e = no_kind k t (leb-true kinds k e)
  by_kind false e = no_tag k t (leb-false kinds k e) l

  pub no_length : 0 ≡ length_of k t
  no_length = by_kind (leb kinds k) refl

-- the same of the place r in the table that a kind's byte tells, and of the place t in a row that a tag's byte tells
module _ (k r : ℕ) (e : r ≡ k) where
  pub row_in : r < kinds → RowOf k (get_or lengths r [])
  row_in h = record { at = λ t l. rw (← e) (in_table r t h l) }

  pub row_out : kinds ≤ r → RowOf k (get_or lengths 0 [])
  row_out h = record { at = λ t l. rw (← e) (no_row r t h l) }

  module _ (tag t : ℕ) (d : t ≡ tag) where
    pub length_in : r < kinds → t < tags → get_or (get_or lengths r []) t 0 ≡ length_of k tag
    length_in h l = rw (← e, ← d) (in_table r t h l)

    pub length_out : kinds ≤ r → 0 ≡ length_of k tag
    length_out h = rw (← e) (no_kind r tag h)

    pub length_past : tags ≤ t → 0 ≡ length_of k tag
    length_past l = rw (← d) (no_length k t l)
