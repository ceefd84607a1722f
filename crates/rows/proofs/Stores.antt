-- Stores at a moving place, over what is stored, and what a writer that stores all or nothing has done. Assumes nothing.
use mathlib.Core.Path.{◌≡◌, refl, sym, ap, ◌∙◌}
use mathlib.Core.List.{List, [], ◌∷◌, ◌++◌, append_assoc}
use Prim.Native.Nat.{ℕ, ◌+◌, ◌-◌, ◌^◌, ◌≤◌, ◌<◌}
use native.Mathlib.Nat.{add-zero, zero-add, add_assoc}
use native.Mathlib.Numerals.{add-one}
use native.Mathlib.Omega.{arith}
use borrow.Author.Tests.{le-leb, lt-leb}
use lib.ListN.{length, set, take, drop, length-append, length-set, length-drop}
use lib.Seq.{sets, sets-eq, take-set-le, drop-set-lt, length-take-le, drop-drop}
use borrow.Rule.Slice.PartMut.{put_mid}
use Rattle.rows.specs.Bytes.{number, big, bytes_at, number_at}
use Rattle.rows.specs.Stores.{over, puts, fitting, Laid}
use Rattle.rows.proofs.Bytes.{spelled, length_big, bytes_at_at}

-- ---- a run of stores

module _ {A : Type 0} where
  pub length_puts : (l : List A) (i : ℕ) (vs : List A) → length (puts l i vs) ≡ length l
  length_puts l i [] = refl
  length_puts l i (v ∷ vs) = length_puts (set l i v) (i + 1) vs ∙ length-set l i v

  -- one run of stores after the other
  pub puts_append : (l : List A) (i : ℕ) (xs ys : List A) → puts l i (xs ++ ys) ≡ puts (puts l i xs) (i + length xs) ys
  puts_append l i [] ys = rw add-zero
  puts_append l i (x ∷ xs) ys = puts_append (set l i x) (i + 1) xs ys ∙ rw (add_assoc i 1 (length xs), one_more xs)
    where
      one_more : (zs : List _) → 1 + length zs ≡ length (x ∷ zs)
      one_more zs = omega arith

  -- the library counts the places by `suc`, where code adds 1
  puts_sets : (l : List A) (i : ℕ) (vs : List A) → puts l i vs ≡ sets l i vs
  puts_sets l i [] = refl
  puts_sets l i (v ∷ vs) = puts_sets (set l i v) (i + 1) vs ∙ rw add-one

  -- the whole list after stores that all fall into it
  pub puts_eq : (l : List A) (i : ℕ) (vs : List A) → i + length vs ≤ length l → puts l i vs ≡ take i l ++ (vs ++ drop (i + length vs) l)
  puts_eq l i vs h = puts_sets l i vs ∙ sets-eq vs l i h ∙ append_assoc (take i l) vs (drop (i + length vs) l)

  pub puts_over : (l vs : List A) → length vs ≤ length l → puts l 0 vs ≡ over vs l
  puts_over l vs h = puts_eq l 0 vs (rw zero-add h) ∙ rw zero-add

  -- what stands in front of the stores is kept
  pub take_before : (n : ℕ) (l : List A) (i : ℕ) (vs : List A) → n ≤ i → take n (puts l i vs) ≡ take n l
  take_before n l i [] h = refl
  take_before n l i (v ∷ vs) h = take_before n (set l i v) (i + 1) vs (omega arith) ∙ take-set-le n l i v h

  pub take_puts : (l : List A) (i : ℕ) (vs : List A) → take i (puts l i vs) ≡ take i l
  take_puts l i vs = take_before i l i vs (omega arith)

  -- and so is what stands behind them
  pub drop_behind : (n : ℕ) (l : List A) (i : ℕ) (vs : List A) → i + length vs ≤ n → drop n (puts l i vs) ≡ drop n l
  drop_behind n l i [] h = refl
  drop_behind n l i (v ∷ vs) h = drop_behind n (set l i v) (i + 1) vs (omega arith) ∙ drop-set-lt n l i v (omega arith)

  pub drop_puts : (l : List A) (i : ℕ) (vs : List A) → drop (i + length vs) (puts l i vs) ≡ drop (i + length vs) l
  drop_puts l i vs = drop_behind (i + length vs) l i vs (omega arith)

  pub length_over : (vs l : List A) → length vs ≤ length l → length (over vs l) ≡ length l
  length_over vs l h = simp (length-append, length-drop) (omega arith)

-- ---- all or nothing

module _ (l : List ℕ) (i : ℕ) (bs : List ℕ) where
  pub fitting_whole : i + length bs ≤ length l → fitting l i bs ≡ bs
  unfolding fitting
  fitting_whole h = rw (le-leb (i + length bs) (length l) h)

  pub fitting_none : length l < i + length bs → fitting l i bs ≡ []
  unfolding fitting
  fitting_none h = rw (lt-leb (i + length bs) (length l) h)

  module _ (r : ℕ) (l' : List ℕ) where
    -- what a writer has done, by whether it fits
    pub laid_whole : i + length bs ≤ length l → Laid l i bs r l' → (r ≡ i + length bs) × (l' ≡ puts l i bs)
    laid_whole h d = let e = fitting_whole h in (rw e at d.place, rw e at d.bytes)

    pub laid_none : length l < i + length bs → Laid l i bs r l' → (r ≡ i) × (l' ≡ l)
    laid_none h d = let e = fitting_none h in ((rw e at d.place) ∙ add-zero i, rw e at d.bytes)

    pub laid_length : Laid l i bs r l' → length l' ≡ length l
    laid_length d = ap length d.bytes ∙ length_puts l i (fitting l i bs)

    -- and how a writer shows it
    pub whole_laid : i + length bs ≤ length l → r ≡ i + length bs → l' ≡ puts l i bs → Laid l i bs r l'
    whole_laid h p b = let e = fitting_whole h in record { place = rw e p; bytes = rw e b }

  pub none_laid : length l < i + length bs → Laid l i bs i l
  none_laid h = let e = fitting_none h in record { place = rw e (sym (add-zero i)); bytes = rw e }

-- one writer after the other, where both fit
pub laid_then : (l : List ℕ) (i : ℕ) (xs ys : List ℕ) (r : ℕ) (m : List ℕ) (q : ℕ) (n : List ℕ) → i + length (xs ++ ys) ≤ length l
    → Laid l i xs r m → Laid m r ys q n → Laid l i (xs ++ ys) q n
laid_then l i xs ys r m q n h d e =
    let both = length-append xs ys in
    let same = laid_length l i xs r m d in
    let a = laid_whole l i xs r m (omega arith) d in
    let b = laid_whole m r ys q n (omega arith) e in
    whole_laid l i (xs ++ ys) q n h (omega arith) (b.1 ∙ rw (a.0, a.1) (sym (puts_append l i xs ys)))

-- ---- what was written is read back

module _ (l : List ℕ) (i : ℕ) where
  pub bytes_back : (bs : List ℕ) → i + length bs ≤ length l → bytes_at (puts l i bs) i (length bs) ≡ bs
  bytes_back bs h =
      let front : i ≡ length (take i l) = sym (length-take-le i l (omega arith)) in
      rw (puts_eq l i bs h) (bytes_at_at (take i l) bs (drop (i + length bs) l) i (length bs) front refl)

  pub number_back : (w n : ℕ) → n < 256 ^ w → i + w ≤ length l → number_at (puts l i (big w n)) i w ≡ n
  number_back w n small h =
      let long = length_big w n in
      ap number (rw long at (bytes_back (big w n) (omega arith))) ∙ spelled w n small

-- what a writer leaves where its bytes do not fit: the buffer is too short, or the place too far back
module _ (l : List ℕ) (at : ℕ) (bs : List ℕ) where
  pub too_short : length l < length bs → Laid l at bs at l
  too_short h = none_laid l at bs (omega arith)

  pub too_far : length bs ≤ length l → length l - length bs < at → Laid l at bs at l
  too_far h p = none_laid l at bs (omega arith)

-- what is laid down of a value that was matched
pub laid_same : {A : Type 0} (bytes : A → List ℕ) (a b : A) (l : List ℕ) (at r : ℕ) (l' : List ℕ) → a ≡ b → Laid l at (bytes b) r l' → Laid l at (bytes a) r l'
laid_same bytes a b l at r l' e d = rw e d

-- a part of the buffer written over at once is a run of stores
pub copied_puts : {A : Type 0} (l : List A) (i : ℕ) (vs part : List A) (k : ℕ) → part ≡ vs → k ≡ length vs → i + length vs ≤ length l
    → put_mid i k l part ≡ puts l i vs
copied_puts l i vs part k e n h =
    rw (e, n, puts_eq l i vs h, drop-drop (length vs) i l)
