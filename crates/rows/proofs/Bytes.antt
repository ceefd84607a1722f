-- Numbers and the bytes that spell them, each law once over the width; and the bytes of a list from a place on. Assumes nothing.
use mathlib.Core.Path.{◌≡◌, refl, ap, ◌∙◌}
use mathlib.Core.List.{List, [], ◌∷◌, ◌++◌, append-nil}
use Prim.Native.Nat.{ℕ, zero, suc, ◌+◌, ◌*◌, ◌/◌, ◌%◌, ◌^◌, ◌≤◌, ◌<◌}
use native.Mathlib.Nat.{add-zero, zero-add, mul_assoc, pow-suc, pow-succ', mod-lt, mul-le-mul_right, lt_of_lt_of_le}
use native.Mathlib.Omega.{arith}
use borrow.Author.Tests.{le-leb, lt-leb, leb-true, leb-false}
use lib.Arith.{digits_div, digits_mod}
use lib.Dec.{leb, lit<}
use lib.ListN.{length, get_or, take, drop, length-append, length-take, length-drop, take-append-drop, get_or-eq_default}
use lib.Seq.{get_or-drop, take-append_seam, drop-append_seam, drop-drop}
use Rattle.rows.specs.Bytes.{Bytes, onwards, number, before, big, bytes_at, number_at}
use Rattle.rows.proofs.Cases.{on}
use Rattle.rows.proofs.Rows.{drop_one}

-- ---- lists of bytes

pub bytes_none : Bytes []
bytes_none i = lit< tt

pub bytes_cons : (b : ℕ) (bs : List ℕ) → b < 256 → Bytes bs → Bytes (b ∷ bs)
bytes_cons b bs h hs zero = h
bytes_cons b bs h hs (suc i) = hs i

pub bytes_tail : (b : ℕ) (bs : List ℕ) → Bytes (b ∷ bs) → Bytes bs
bytes_tail b bs hs i = hs (suc i)

pub bytes_append : (xs ys : List ℕ) → Bytes xs → Bytes ys → Bytes (xs ++ ys)
bytes_append [] ys hx hy i = hy i
bytes_append (x ∷ xs) ys hx hy zero = hx 0
bytes_append (x ∷ xs) ys hx hy (suc i) = bytes_append xs ys (bytes_tail x xs hx) hy i

pub bytes_drop : (n : ℕ) (s : List ℕ) → Bytes s → Bytes (drop n s)
bytes_drop n s h i = rw (get_or-drop n s i 0) (h (n + i))

pub bytes_take : (n : ℕ) (s : List ℕ) → Bytes s → Bytes (take n s)
bytes_take zero s h i = lit< tt
bytes_take (suc n) [] h i = lit< tt
bytes_take (suc n) (x ∷ s) h zero = h 0
bytes_take (suc n) (x ∷ s) h (suc i) = bytes_take n s (bytes_tail x s h) i

-- ---- a number's bytes spell it

-- no number in front is the number 0 in front
number_onwards : (bs : List ℕ) → number bs ≡ onwards 0 bs
number_onwards [] = refl
number_onwards (b ∷ bs) = let e : b ≡ 0 * 256 + b = omega arith in ap (λ (n : ℕ). onwards n bs) e

-- w bytes move the number in front up by w places
onwards_before : (w n a : ℕ) (bs : List ℕ) → n < 256 ^ w → onwards a (before w n bs) ≡ onwards (a * 256 ^ w + n) bs
onwards_before zero n a bs h = let e : a ≡ a * 256 ^ zero + n = omega arith in ap (λ (m : ℕ). onwards m bs) e
onwards_before (suc w) n a bs h =
    let p = pow-suc 256 w in
    let m = mul_assoc a (256 ^ w) 256 in
    let e : (a * 256 ^ w + n / 256) * 256 + n % 256 ≡ a * 256 ^ suc w + n = rw p (omega arith) in
    onwards_before w (n / 256) a (n % 256 ∷ bs) (omega arith) ∙ ap (λ (k : ℕ). onwards k bs) e

pub spelled : (w n : ℕ) → n < 256 ^ w → number (big w n) ≡ n
spelled w n h =
    let e : 0 * 256 ^ w + n ≡ n = omega arith in
    number_onwards (big w n) ∙ onwards_before w n 0 [] h ∙ e

-- ---- bytes are those of the number that they spell

-- the bytes behind a number are its last ones
before_onwards : (bs : List ℕ) (v a : ℕ) (tail : List ℕ) → Bytes bs → before (length bs + v) (onwards a bs) tail ≡ before v a (bs ++ tail)
before_onwards [] v a tail h = rw zero-add
before_onwards (b ∷ bs) v a tail h =
    let e : suc (length bs) + v ≡ length bs + suc v = omega arith in
    rw e (before_onwards bs (suc v) (a * 256 + b) tail (bytes_tail b bs h) ∙ rw (digits_div a (h 0), digits_mod a (h 0)))

pub respelled : (bs : List ℕ) → Bytes bs → big (length bs) (number bs) ≡ bs
respelled bs h =
    rw number_onwards ((rw add-zero at (before_onwards bs 0 0 [] h)) ∙ append-nil bs)

-- ---- how many and how large

length_before : (w n : ℕ) (bs : List ℕ) → length (before w n bs) ≡ w + length bs
length_before zero n bs = rw zero-add
length_before (suc w) n bs = length_before w (n / 256) (n % 256 ∷ bs) ∙ omega arith

pub length_big : (w n : ℕ) → length (big w n) ≡ w
length_big w n = length_before w n [] ∙ add-zero w

before_bytes : (w n : ℕ) (bs : List ℕ) → Bytes bs → Bytes (before w n bs)
before_bytes zero n bs h = h
before_bytes (suc w) n bs h = before_bytes w (n / 256) (n % 256 ∷ bs) (bytes_cons (n % 256) bs (mod-lt n (lit< tt)) h)

pub big_bytes : (w n : ℕ) → Bytes (big w n)
big_bytes w n = before_bytes w n [] bytes_none

onwards_small : (bs : List ℕ) (a : ℕ) → Bytes bs → onwards a bs < (a + 1) * 256 ^ length bs
onwards_small [] a h = omega arith
onwards_small (b ∷ bs) a h =
    let t : a * 256 + b + 1 ≤ (a + 1) * 256 = omega (arith, h 0) in
    rw (pow-succ' 256 (length bs), ← mul_assoc (a + 1) 256 (256 ^ length bs))
    (lt_of_lt_of_le (onwards_small bs (a * 256 + b) (bytes_tail b bs h)) (mul-le-mul_right (256 ^ length bs) t))

pub number_small : (bs : List ℕ) → Bytes bs → number bs < 256 ^ length bs
number_small bs h = rw (number_onwards bs) (omega (arith, onwards_small bs 0 h))

-- ---- the w bytes of s from `at` on

module _ (s : List ℕ) (at w : ℕ) where
  pub bytes_at_inside : at + w ≤ length s → bytes_at s at w ≡ take w (drop at s)
  unfolding bytes_at
  bytes_at_inside h = rw (le-leb (at + w) (length s) h)

  pub bytes_at_outside : length s < at + w → bytes_at s at w ≡ []
  unfolding bytes_at
  bytes_at_outside h = rw (lt-leb (at + w) (length s) h)

  pub bytes_at_split : at + w ≤ length s → bytes_at s at w ++ drop (at + w) s ≡ drop at s
  bytes_at_split h = rw (bytes_at_inside h, ← drop-drop w at s) (take-append-drop w (drop at s))

  pub length_bytes_at : at + w ≤ length s → length (bytes_at s at w) ≡ w
  length_bytes_at h = rw (bytes_at_inside h) (simp (length-take, length-drop) (omega arith))

  pub bytes_at_bytes : Bytes s → Bytes (bytes_at s at w)
  bytes_at_bytes b = on (leb (at + w) (length s))
      (λ e. rw (bytes_at_inside (leb-true (at + w) (length s) e)) (bytes_take w (drop at s) (bytes_drop at s b)))
      (λ e. rw (bytes_at_outside (leb-false (at + w) (length s) e)) bytes_none)

-- bytes stand where what is in front of them ends
pub bytes_at_at : (pre bs post : List ℕ) (at w : ℕ) → at ≡ length pre → w ≡ length bs → bytes_at (pre ++ (bs ++ post)) at w ≡ bs
bytes_at_at pre bs post at w p q =
    let h : at + w ≤ length (pre ++ (bs ++ post)) = simp length-append (omega arith) in
    bytes_at_inside (pre ++ (bs ++ post)) at w h ∙ rw (p, q, drop-append_seam pre (bs ++ post), take-append_seam bs post)

pub bytes_at_found : (pre bs post : List ℕ) → bytes_at (pre ++ (bs ++ post)) (length pre) (length bs) ≡ bs
bytes_at_found pre bs post = bytes_at_at pre bs post (length pre) (length bs) refl refl

-- ---- a number read byte by byte

pub number_at_outside : (s : List ℕ) (at w : ℕ) → length s < at + w → 0 ≡ number_at s at w
number_at_outside s at w h = rw (bytes_at_outside s at w h)

-- the first of the bytes to read, and the others from the next place j on
pub take_one : {A : Type 0} (s : List A) (i w : ℕ) (d : A) (j : ℕ) → j ≡ i + 1 → i < length s
    → take (suc w) (drop i s) ≡ get_or s i d ∷ take w (drop j s)
take_one s i w d j e h = rw (e, drop_one s i d h)

-- a byte is the entry there, and 0 outside
pub number_at_one : (s : List ℕ) (at : ℕ) → number_at s at 1 ≡ get_or s at 0
number_at_one s at = on (leb (at + 1) (length s))
    (λ e. let h : at + 1 ≤ length s = leb-true (at + 1) (length s) e in
    rw (bytes_at_inside s at 1 h, take_one s at 0 0 (at + 1) refl (omega arith)))
    (λ e. let h : length s < at + 1 = leb-false (at + 1) (length s) e in
    rw (bytes_at_outside s at 1 h, get_or-eq_default s 0 {n = at} (omega arith)))
