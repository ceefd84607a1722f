-- The turns of a loop over a row or its first entries, and laws of whole walks, each once over the row's length. Assumes nothing.
use mathlib.Core.Path.{◌≡◌, refl, sym, ap, ◌∙◌}
use mathlib.Core.Bool.{Bool, true, false}
use mathlib.Core.List.{List, [], ◌∷◌, ◌++◌, append_assoc}
use Prim.Native.Nat.{ℕ, zero, suc, ◌+◌, ◌*◌, ◌≤◌, ◌<◌, suc-le-suc}
use native.Mathlib.Nat.{add-zero, zero-add, add_assoc, suc-mul, zero-mul, le_of_suc-le-suc, not-suc-le-zero}
use native.Mathlib.Omega.{arith}
use borrow.Author.Tests.{ltb-true}
use lib.Dec.{ltb}
use lib.ListN.{length, get_or, drop, take, set, length-append}
use Rattle.rows.specs.Stores.{puts}
use Rattle.rows.specs.Walk.{every, folded, sum, many, pieces, at_most}
use Rattle.rows.proofs.Cases.{on, both_true, true_both}
use Rattle.rows.proofs.Rows.{drop_one, drop_end, first_one, first_none}
use Rattle.rows.proofs.Stores.{puts_append}

-- ---- the turns of a loop over a row

-- The invariant says what is left to do: the walk of what is left of the row, from what the loop holds now, is the walk of all of it. So a turn
-- takes one entry off, and at the end nothing is left and the loop holds the answer.

module _ {A : Type 0} (f : ℕ → A → Bool) (xs : List A) (d : A) (i : ℕ) (r : Bool) (inv : every f i (drop i xs) ≡ r) where
  pub every_more : i < length xs → f i (get_or xs i d) ≡ true → every f (i + 1) (drop (i + 1) xs) ≡ r
  every_more h t = rw (drop_one xs i d h, t) at inv

  pub every_stop : i < length xs → f i (get_or xs i d) ≡ false → false ≡ r
  every_stop h t = rw (drop_one xs i d h, t) at inv

  pub every_end : length xs ≤ i → true ≡ r
  every_end h = rw (drop_end xs i h) at inv

module _ {A B : Type 0} (g : B → ℕ → A → B) (xs : List A) (d : A) (b : B) (i : ℕ) (r : B) (inv : folded g b i (drop i xs) ≡ r) where
  pub folded_more : i < length xs → folded g (g b i (get_or xs i d)) (i + 1) (drop (i + 1) xs) ≡ r
  folded_more h = rw (drop_one xs i d h) at inv

  pub folded_end : length xs ≤ i → b ≡ r
  folded_end h = rw (drop_end xs i h) at inv

module _ {A : Type 0} (f : A → ℕ) (xs : List A) (d : A) (s i r : ℕ) (inv : s + sum f (drop i xs) ≡ r) where
  pub sum_more : i < length xs → s + f (get_or xs i d) + sum f (drop (i + 1) xs) ≡ r
  sum_more h = add_assoc s (f (get_or xs i d)) (sum f (drop (i + 1) xs)) ∙ (rw (drop_one xs i d h) at inv)

  pub sum_end : length xs ≤ i → s ≡ r
  sum_end h = rw (drop_end xs i h, add-zero) at inv

module _ {A : Type 0} (p : A → Bool) (xs : List A) (d : A) (n i r : ℕ) (inv : n + many p (drop i xs) ≡ r) where
  pub many_more : i < length xs → p (get_or xs i d) ≡ true → n + 1 + many p (drop (i + 1) xs) ≡ r
  many_more h t = omega (arith, rw (drop_one xs i d h, t) at inv)

  pub many_skip : i < length xs → p (get_or xs i d) ≡ false → n + many p (drop (i + 1) xs) ≡ r
  many_skip h t = rw (drop_one xs i d h, t) at inv

  pub many_end : length xs ≤ i → n ≡ r
  many_end h = rw (drop_end xs i h, add-zero) at inv

-- a piece for each entry, stored at a moving place p: q is the place after this piece
module _ {A B : Type 0} (f : A → List B) (xs : List A) (d : A) (i p : ℕ) (out r : List B) (inv : puts out p (pieces f (drop i xs)) ≡ r) where
  pub pieces_more : i < length xs → (q : ℕ) → q ≡ p + length (f (get_or xs i d)) → puts (puts out p (f (get_or xs i d))) q (pieces f (drop (i + 1) xs)) ≡ r
  pieces_more h q e = rw (e, ← puts_append out p (f (get_or xs i d)) (pieces f (drop (i + 1) xs))) (rw (drop_one xs i d h) at inv)

  pub pieces_end : length xs ≤ i → out ≡ r
  pieces_end h = rw (drop_end xs i h) at inv

-- ---- the same over a row's first n entries, read from the row itself

module _ {A : Type 0} (f : ℕ → A → Bool) (xs : List A) (d : A) (n i : ℕ) (r : Bool) (inv : every f i (drop i (take n xs)) ≡ r) where
  pub first_every_more : i < n → n ≤ length xs → f i (get_or xs i d) ≡ true → every f (i + 1) (drop (i + 1) (take n xs)) ≡ r
  first_every_more h l t = rw (first_one xs n i d h l, t) at inv

  pub first_every_stop : i < n → n ≤ length xs → f i (get_or xs i d) ≡ false → false ≡ r
  first_every_stop h l t = rw (first_one xs n i d h l, t) at inv

  pub first_every_end : n ≤ i → true ≡ r
  first_every_end h = rw (first_none xs n i h) at inv

module _ {A B : Type 0} (g : B → ℕ → A → B) (xs : List A) (d : A) (n : ℕ) (b : B) (i : ℕ) (r : B) (inv : folded g b i (drop i (take n xs)) ≡ r) where
  pub first_folded_more : i < n → n ≤ length xs → folded g (g b i (get_or xs i d)) (i + 1) (drop (i + 1) (take n xs)) ≡ r
  first_folded_more h l = rw (first_one xs n i d h l) at inv

  pub first_folded_end : n ≤ i → b ≡ r
  first_folded_end h = rw (first_none xs n i h) at inv

module _ {A : Type 0} (f : A → ℕ) (xs : List A) (d : A) (n s i r : ℕ) (inv : s + sum f (drop i (take n xs)) ≡ r) where
  pub first_sum_more : i < n → n ≤ length xs → s + f (get_or xs i d) + sum f (drop (i + 1) (take n xs)) ≡ r
  first_sum_more h l = add_assoc s (f (get_or xs i d)) (sum f (drop (i + 1) (take n xs))) ∙ (rw (first_one xs n i d h l) at inv)

  pub first_sum_end : n ≤ i → s ≡ r
  first_sum_end h = rw (first_none xs n i h, add-zero) at inv

module _ {A B : Type 0} (f : A → List B) (xs : List A) (d : A) (n i p : ℕ) (out r : List B) (inv : puts out p (pieces f (drop i (take n xs))) ≡ r) where
  pub first_more : i < n → n ≤ length xs → (q : ℕ) → q ≡ p + length (f (get_or xs i d))
      → puts (puts out p (f (get_or xs i d))) q (pieces f (drop (i + 1) (take n xs))) ≡ r
  first_more h l q e =
      rw (e, ← puts_append out p (f (get_or xs i d)) (pieces f (drop (i + 1) (take n xs)))) (rw (first_one xs n i d h l) at inv)

  pub first_end : n ≤ i → out ≡ r
  first_end h = rw (first_none xs n i h) at inv

-- ---- a test of every entry, said of each place, and an entry written anew

module _ {A : Type 0} (f : ℕ → A → Bool) where
  every_from : (d : A) (xs : List A) (i : ℕ) → every f i xs ≡ true → (k : ℕ) → k < length xs → f (i + k) (get_or xs k d) ≡ true
  every_from d [] i t k h = absurd (not-suc-le-zero h)
  every_from d (x ∷ xs) i t zero h = rw add-zero (both_true (f i x) (every f (i + 1) xs) t).0
  every_from d (x ∷ xs) i t (suc k) h =
      let e : i + suc k ≡ i + 1 + k = omega arith in
      rw e (every_from d xs (i + 1) (both_true (f i x) (every f (i + 1) xs) t).1 k (le_of_suc-le-suc h))

  pub every_at : (d : A) (xs : List A) → every f 0 xs ≡ true → (k : ℕ) → k < length xs → f k (get_or xs k d) ≡ true
  every_at d xs t k h = rw (zero-add k) at (every_from d xs 0 t k h)

  all_from : (d : A) (xs : List A) (i : ℕ) → ((k : ℕ) → k < length xs → f (i + k) (get_or xs k d) ≡ true) → every f i xs ≡ true
  all_from d [] i p = refl
  all_from d (x ∷ xs) i p =
      true_both (rw add-zero at (p 0 (omega arith)))
      (all_from d xs (i + 1) (λ k h. let e : i + 1 + k ≡ i + suc k = omega arith in rw e (p (suc k) (suc-le-suc h))))

  pub every_all : (d : A) (xs : List A) → ((k : ℕ) → k < length xs → f k (get_or xs k d) ≡ true) → every f 0 xs ≡ true
  every_all d xs p = all_from d xs 0 (λ k h. rw zero-add (p k h))

  set_from : (xs : List A) (i j : ℕ) (v : A) → every f j xs ≡ true → f (j + i) v ≡ true → every f j (set xs i v) ≡ true
  set_from [] i j v t p = t
  set_from (x ∷ xs) zero j v t p = true_both (rw add-zero at p) (both_true (f j x) (every f (j + 1) xs) t).1
  set_from (x ∷ xs) (suc i) j v t p =
      let e : j + suc i ≡ j + 1 + i = omega arith in
      let b = both_true (f j x) (every f (j + 1) xs) t in
      true_both b.0 (set_from xs i (j + 1) v b.1 (rw e at p))

  -- a row that passes still passes with an entry changed to one that passes there
  pub every_set : (xs : List A) (i : ℕ) (v : A) → every f 0 xs ≡ true → f i v ≡ true → every f 0 (set xs i v) ≡ true
  every_set xs i v t p = set_from xs i 0 v t (rw zero-add p)

-- ---- sums and pieces

module _ {A : Type 0} (f : A → ℕ) where
  -- the sum moves by what the entry moves
  pub sum_set : (xs : List A) (i : ℕ) (v d : A) → i < length xs → sum f (set xs i v) + f (get_or xs i d) ≡ sum f xs + f v
  sum_set [] i v d h = absurd (not-suc-le-zero h)
  sum_set (x ∷ xs) zero v d h = omega arith
  sum_set (x ∷ xs) (suc i) v d h = omega (arith, sum_set xs i v d (le_of_suc-le-suc h))

  pub sum_const : (k : ℕ) → ((x : A) → f x ≡ k) → (xs : List A) → sum f xs ≡ length xs * k
  sum_const k e [] = sym (zero-mul k)
  sum_const k e (x ∷ xs) = omega (arith, e x, sum_const k e xs, suc-mul (length xs) k)

module _ {A B : Type 0} (f : A → List B) where
  pub pieces_append : (xs ys : List A) → pieces f (xs ++ ys) ≡ pieces f xs ++ pieces f ys
  pieces_append [] ys = refl
  pieces_append (x ∷ xs) ys = ap (λ (l : List B). f x ++ l) (pieces_append xs ys) ∙ sym (append_assoc (f x) (pieces f xs) (pieces f ys))

  pub length_pieces : (xs : List A) → length (pieces f xs) ≡ sum (λ x. length (f x)) xs
  length_pieces [] = refl
  length_pieces (x ∷ xs) = length-append (f x) (pieces f xs) ∙ ap (λ (n : ℕ). length (f x) + n) (length_pieces xs)

  -- pieces of one size
  pub pieces_even : (k : ℕ) → ((x : A) → length (f x) ≡ k) → (xs : List A) → length (pieces f xs) ≡ length xs * k
  pieces_even k e xs = length_pieces xs ∙ sum_const (λ x. length (f x)) k e xs

-- ---------- no more than a limit

pub at_most_lem : (limit n : ℕ) → at_most limit n ≤ limit
at_most_lem limit n = on (ltb n limit) (λ b. rw b (omega (arith, ltb-true n limit b))) (λ b. rw b (omega arith))
