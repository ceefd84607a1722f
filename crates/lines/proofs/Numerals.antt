-- The decimal numeral is the number's: its characters are digits, their value is the number, and no zero stands in front. Assumes nothing.
use mathlib.Core.Path.{◌≡◌, refl, ◌∙◌}
use mathlib.Core.Bool.{Bool, true, ◌&&◌}
use mathlib.Core.List.{List, [], ◌∷◌, ◌++◌}
use Prim.Native.Nat.{ℕ, zero, suc, ◌+◌, ◌-◌, ◌*◌, ◌/◌, ◌%◌, ◌^◌, ◌≤◌, ◌<◌}
use native.Mathlib.Nat.{pow-suc}
use native.Mathlib.Omega.{arith}
use borrow.Author.Tests.{ltb-true, ltb-false, le-leb}
use lib.Dec.{leb, ltb}
use lib.ListN.{length, get_or, get_or-append}
use Rattle.rows.specs.Walk.{every}
use Rattle.rows.proofs.Cases.{on, both_true, true_both}
use Rattle.lines.specs.Decimal.{digits, digit_count, decimal}
use Rattle.lines.proofs.DigitCounts.{count_one, count_more}
use Rattle.lines.proofs.Spelling.{length_digits}

-- ---------- induction over the digits of a number

-- what holds below ten, and of n where it holds of n / 10, holds of every number: by induction on a bound of the number
module _ (P : ℕ → Type 0) (few : (n : ℕ) → n ≤ 9 → P n) (more : (n : ℕ) → 9 < n → P (n / 10) → P n) where
  up_to : (bound n : ℕ) → n ≤ bound → P n
  up_to zero n h = few n (omega arith)
  up_to (suc bound) n h = on (ltb 9 n)
      (λ e. let t = ltb-true 9 n e in more n t (up_to bound (n / 10) (omega arith)))
      (λ e. few n (ltb-false 9 n e))

  pub by_digits : (n : ℕ) → P n
  by_digits n = up_to n n (omega arith)

-- ---------- digits alone

-- from '0' to '9', at any place
abbrev pub is_digit : ℕ → ℕ → Bool
is_digit i d = leb 48 d && leb d 57

every_append : (f : ℕ → ℕ → Bool) (i : ℕ) (xs ys : List ℕ) → every f i xs ≡ true → ((j : ℕ) → every f j ys ≡ true) → every f i (xs ++ ys) ≡ true
every_append f i [] ys p q = q i
every_append f i (x ∷ xs) ys p q =
    let b = both_true (f i x) (every f (i + 1) xs) p in
    true_both b.0 (every_append f (i + 1) xs ys b.1 q)

digits_alone : (k n : ℕ) → every is_digit 0 (digits k n) ≡ true
digits_alone zero n = refl
digits_alone (suc k) n =
    every_append is_digit 0 (digits k (n / 10)) ((48 + n % 10) ∷ []) (digits_alone k (n / 10))
    (λ j. rw (le-leb 48 (48 + n % 10) (omega arith), le-leb (48 + n % 10) 57 (omega arith)))

pub only_digits : (n : ℕ) → every is_digit 0 (decimal n) ≡ true
only_digits n = digits_alone (digit_count n) n

-- ---------- the value

-- the number v with the digits ds, in ASCII, behind it
abbrev pub valued : ℕ → List ℕ → ℕ
valued v [] = v
valued v (d ∷ ds) = valued (v * 10 + (d - 48)) ds

abbrev pub value : List ℕ → ℕ
value ds = valued 0 ds

valued_append : (v : ℕ) (xs ys : List ℕ) → valued v (xs ++ ys) ≡ valued (valued v xs) ys
valued_append v [] ys = refl
valued_append v (x ∷ xs) ys = valued_append (v * 10 + (x - 48)) xs ys

digits_value : (k n : ℕ) → n < 10 ^ k → value (digits k n) ≡ n
digits_value zero n h = omega arith
digits_value (suc k) n h =
    let p = pow-suc 10 k in
    let front = digits_value k (n / 10) (omega arith) in
    valued_append 0 (digits k (n / 10)) ((48 + n % 10) ∷ []) ∙ omega arith

-- the number has a place for each of its digits
pub count_enough : (n : ℕ) → n < 10 ^ digit_count n
count_enough = by_digits (λ n. n < 10 ^ digit_count n)
    (λ n h. rw (count_one n h) (omega arith))
    (λ n h p. rw (count_more n h) (omega (arith, pow-suc 10 (digit_count (n / 10)))))

pub decimal_value : (n : ℕ) → value (decimal n) ≡ n
decimal_value n = digits_value (digit_count n) n (count_enough n)

-- ---------- no zero in front

count_some : (n : ℕ) → 0 < length (decimal n)
count_some n = rw (length_digits (digit_count n) n) (by_digits (λ m. 0 < digit_count m) (λ m h. omega (arith, count_one m h)) (λ m h p. omega (arith, count_more m h)) n)

-- a zero is the first digit of 0 alone
pub no_zero_in_front : (n : ℕ) → 0 < n → 48 < get_or (decimal n) 0 0
no_zero_in_front = by_digits (λ n. 0 < n → 48 < get_or (decimal n) 0 0)
    (λ n h p. rw (count_one n h) (omega arith))
    (λ n h q p. rw (count_more n h, get_or-append (decimal (n / 10)) ((48 + n % 10) ∷ []) 0 0 (count_some (n / 10))) (q (omega arith)))
