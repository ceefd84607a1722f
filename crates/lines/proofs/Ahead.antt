-- Pieces laid down one behind the other, where there is room for all: what is still ahead. Assumes nothing.
use mathlib.Core.Path.{◌≡◌, refl, sym, ◌∙◌}
use mathlib.Core.List.{List, ◌++◌}
use Prim.Native.Nat.{ℕ, ◌+◌, ◌≤◌}
use native.Mathlib.Omega.{arith}
use lib.ListN.{length, length-append}
use Rattle.rows.specs.Stores.{puts, Laid}
use Rattle.rows.proofs.Stores.{puts_append, whole_laid, laid_whole, laid_length}

-- all the bytes, from `at` on in the buffer out
module _ (out : List ℕ) (at : ℕ) (all : List ℕ) where
  -- the rest of them is ahead, at q in the buffer l
  pub record Ahead (l : List ℕ) (q : ℕ) (rest : List ℕ) : Type 0 where
    pub room : at + length all ≤ length out
    pub same : length l ≡ length out
    pub place : q + length rest ≡ at + length all
    pub left : puts l q rest ≡ puts out at all

  pub ahead_begins : at + length all ≤ length out → Ahead out at all
  ahead_begins h = record { room = h; same = refl; place = refl; left = refl }

  module _ (l : List ℕ) (q : ℕ) (xs : List ℕ) (r : ℕ) (l' : List ℕ) where
    -- the next piece is laid down
    pub ahead_more : (ys : List ℕ) → Ahead l q (xs ++ ys) → Laid l q xs r l' → Ahead l' r ys
    ahead_more ys g d =
        let both = length-append xs ys in
        let went = laid_whole l q xs r l' (omega (arith, g.room, g.same, g.place)) d in
        record {
          room = g.room;
          same = laid_length l q xs r l' d ∙ g.same;
          place = omega (arith, went.0, g.place);
          left = rw (went.0, went.1) (sym (puts_append l q xs ys) ∙ g.left);
        }

    -- and the last one
    pub ahead_ends : Ahead l q xs → Laid l q xs r l' → Laid out at all r l'
    ahead_ends g d =
        let went = laid_whole l q xs r l' (omega (arith, g.room, g.same, g.place)) d in
        whole_laid out at all r l' g.room (omega (arith, went.0, g.place)) (went.1 ∙ g.left)
