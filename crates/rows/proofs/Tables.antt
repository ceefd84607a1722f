-- A rule of a whole table of rows, proved at each entry by one test that computes. Assumes nothing.
use mathlib.Core.Path.{◌≡◌}
use mathlib.Core.Bool.{Bool, true, ◌&&◌}
use mathlib.Core.List.{List, []}
use Prim.Native.Nat.{ℕ, ◌<◌}
use borrow.Author.Tests.{eqb-true}
use lib.Dec.{eqb}
use lib.ListN.{length, get_or}
use Rattle.rows.specs.Walk.{every}
use Rattle.rows.proofs.Cases.{both_true}
use Rattle.rows.proofs.Walks.{every_at}

module _ {A : Type 0} (f : ℕ → ℕ → A → Bool) (n : ℕ) where
  -- row k is n long, and each of its entries passes the test at its place
  abbrev pub every_row : ℕ → List A → Bool
  every_row k row = eqb (length row) n && every (f k) 0 row

  -- the test that computes, `refl` where the table is written out, and what it says of the entry at k and t
  pub table_at : (rows : List (List A)) (d : A) → every every_row 0 rows ≡ true → (k t : ℕ) → k < length rows → t < n
      → f k t (get_or (get_or rows k []) t d) ≡ true
  table_at rows d e k t h l =
      let row = get_or rows k [] in
      let b = both_true (eqb (length row) n) (every (f k) 0 row) (every_at every_row [] rows e k h) in
      every_at (f k) d row b.1 t (rw (eqb-true (length row) n b.0) l)
