-- What is left of a row, and of its first entries, over its length and the type of its entries. Assumes nothing.
use mathlib.Core.Path.{◌≡◌, refl, sym, ◌∙◌}
use mathlib.Core.List.{List, [], ◌∷◌, map}
use Prim.Native.Nat.{ℕ, zero, suc, ◌+◌, ◌≤◌, ◌<◌}
use native.Mathlib.Numerals.{add-one}
use native.Mathlib.Omega.{arith}
use lib.ListN.{length, get_or, take, drop, replicate, length-map, length-take, drop_of_length-le}
use lib.Seq.{drop-cons, get_or-take, length-take-le}

-- what owning a struct tells of a field that is an array of structs: its list is as long as the array
pub row_long : {X Y : Type 0} (f : X → Y) (l : List X) (n : ℕ) → length (map f l) ≡ n → length l ≡ n
row_long f l n p = sym (length-map l f) ∙ p

module _ {A : Type 0} where
  -- a row of one entry alone
  pub get_d_replicate : (n i : ℕ) (a : A) → get_or (replicate n a) i a ≡ a
  get_d_replicate zero i a = refl
  get_d_replicate (suc n) zero a = refl
  get_d_replicate (suc n) (suc i) a = get_d_replicate n i a

  -- the head of what is left, and the end
  pub drop_one : (l : List A) (i : ℕ) (d : A) → i < length l → drop i l ≡ get_or l i d ∷ drop (i + 1) l
  drop_one l i d h = drop-cons l i d h ∙ rw (← add-one i)

  pub drop_end : (l : List A) (i : ℕ) → length l ≤ i → drop i l ≡ []
  drop_end l i h = drop_of_length-le l h

  -- what is read of a row's first n entries is read of the row
  pub first_at : (xs : List A) (n i : ℕ) (d : A) → i < n → get_or (take n xs) i d ≡ get_or xs i d
  first_at xs n i d h = get_or-take n xs i d h

  pub first_long : (xs : List A) (n : ℕ) → n ≤ length xs → length (take n xs) ≡ n
  first_long xs n h = length-take-le n xs h

  -- so the head of what is left of them is an entry of the row
  pub first_one : (xs : List A) (n i : ℕ) (d : A) → i < n → n ≤ length xs → drop i (take n xs) ≡ get_or xs i d ∷ drop (i + 1) (take n xs)
  first_one xs n i d h l =
      let long = first_long xs n l in
      rw (first_at xs n i d h) at (drop_one (take n xs) i d (omega arith))

  pub first_none : (xs : List A) (n i : ℕ) → n ≤ i → drop i (take n xs) ≡ []
  first_none xs n i h = drop_end (take n xs) i (simp length-take (omega arith))
