-- A loop that lays the records of a row down one behind the other, each in the same number of bytes: its invariant, a turn, its end. Assumes nothing.
use mathlib.Core.Path.{◌≡◌, refl, ◌∙◌}
use mathlib.Core.List.{List}
use Prim.Native.Nat.{ℕ, ◌+◌, ◌*◌, ◌≤◌, ◌<◌}
use native.Mathlib.Nat.{mul-le-mul_right, zero-mul, add-mul, one-mul}
use native.Mathlib.Omega.{arith}
use lib.ListN.{length, get_or, drop}
use Rattle.rows.specs.Stores.{Laid, puts}
use Rattle.rows.specs.Walk.{pieces}
use Rattle.rows.proofs.Rows.{drop_one, drop_end}
use Rattle.rows.proofs.Stores.{whole_laid, none_laid, laid_whole, laid_length, puts_append}
use Rattle.rows.proofs.Walks.{pieces_even}

module _ {A : Type 0} (f : A → List ℕ) (long : ℕ) (even : (x : A) → length (f x) ≡ long) (xs : List A) (out₀ : List ℕ) (at : ℕ) where
  -- the records from i on are left to lay down at p
  pub record Ahead (out : List ℕ) (i p : ℕ) : Type 0 where
    pub below : i ≤ length xs
    pub room : at + length xs * long ≤ length out₀
    pub same : length out ≡ length out₀
    pub place : p ≡ at + i * long
    pub rest : puts out p (pieces f (drop i xs)) ≡ puts out₀ at (pieces f xs)

  pub ahead_begins : at + length xs * long ≤ length out₀ → Ahead out₀ 0 at
  ahead_begins r = record { below = omega arith; room = r; same = refl; place = rw zero-mul (omega arith); rest = refl }

  module _ (out : List ℕ) (i p : ℕ) (g : Ahead out i p) where
    pub ahead_more : (x : A) → x ≡ get_or xs i x → i < length xs → (q : ℕ) (out' : List ℕ) → Laid out p (f x) q out' → Ahead out' (i + 1) q
    ahead_more x e h q out' k =
        let size = even x in
        let one : (i + 1) * long ≡ i * long + long = add-mul i 1 long ∙ rw one-mul in
        let last : (i + 1) * long ≤ length xs * long = mul-le-mul_right long (omega arith) in
        let went = laid_whole out p (f x) q out' (omega arith) k in
        let front = drop_one xs i x h in
        record {
          below = omega arith;
          room = g.room;
          same = laid_length out p (f x) q out' k ∙ g.same;
          place = omega arith;
          rest = rw (went.1, went.0, ← puts_append out p (f x) (pieces f (drop (i + 1) xs))) (rw (front, ← e) at g.rest);
        }

    pub ahead_ends : length xs ≤ i → Laid out₀ at (pieces f xs) p out
    ahead_ends h =
        let size = pieces_even f long even xs in
        let end : i ≡ length xs = omega (arith, g.below) in
        let place = rw end at g.place in
        whole_laid out₀ at (pieces f xs) p out (omega arith) (omega arith) (rw (drop_end xs i h) at g.rest)

  -- where there is no room, nothing is laid
  pub none_ahead : length out₀ < at + length xs * long → Laid out₀ at (pieces f xs) at out₀
  none_ahead h = let size = pieces_even f long even xs in none_laid out₀ at (pieces f xs) (omega arith)
