-- How many decimal digits a number has: one more for each division by ten; at most 20 below 2 ^ 64; and what its logarithm says. Assumes nothing.
use mathlib.Core.Path.{◌≡◌, refl, sym, ap, ◌∙◌}
use Prim.Native.Nat.{ℕ, zero, suc, ◌+◌, ◌*◌, ◌/◌, ◌^◌, ◌≤◌, ◌<◌}
use native.Mathlib.Nat.{pow-suc}
use native.Mathlib.Omega.{arith}
use borrow.Author.Tests.{lt-ltb, le-ltb, ltb-true, ltb-false}
use lib.Dec.{ltb}
use Rattle.std.specs.Prelude.{max}
use Rattle.rows.proofs.Cases.{on}
use Rattle.lines.specs.Decimal.{digit_count_up_to, digit_count}

-- ---------- with some number of times to divide

-- under ten no division is needed, so that it does not matter how many there could be
up_to_one : (a n : ℕ) → n ≤ 9 → digit_count_up_to a n ≡ 1
unfolding digit_count_up_to
up_to_one zero n h = refl
up_to_one (suc a) n h = rw (le-ltb 9 n h)

up_to_more : (a n : ℕ) → 9 < n → digit_count_up_to (suc a) n ≡ suc (digit_count_up_to a (n / 10))
unfolding digit_count_up_to
up_to_more a n h = rw (lt-ltb 9 n h)

-- nor does it matter where both are enough
enough : (a b n : ℕ) → n ≤ a → n ≤ b → digit_count_up_to a n ≡ digit_count_up_to b n
enough zero b n p q = up_to_one zero n (omega arith) ∙ rw (up_to_one b n (omega arith))
enough (suc a) zero n p q = up_to_one (suc a) n (omega arith) ∙ rw (up_to_one zero n (omega arith))
enough (suc a) (suc b) n p q = on (ltb 9 n)
    (λ e. let h = ltb-true 9 n e in rw (up_to_more a n h, up_to_more b n h) (ap suc (enough a b (n / 10) (omega arith) (omega arith))))
    (λ e. let h = ltb-false 9 n e in rw (up_to_one (suc a) n h, up_to_one (suc b) n h))

-- ---------- the number of digits

module _ (n : ℕ) where
  pub count_one : n ≤ 9 → digit_count n ≡ 1
  count_one h = up_to_one n n h

  pub count_more : 9 < n → digit_count n ≡ suc (digit_count (n / 10))
  count_more h = enough n (suc n) n (omega arith) (omega arith) ∙ up_to_more n n h ∙ ap suc (enough n (n / 10) (n / 10) (omega arith) (omega arith))

-- the number has no more digits than a power of ten above it has zeros
pub count_few : (k n : ℕ) → n < 10 ^ suc k → digit_count n ≤ suc k
count_few zero n h = rw (count_one n (omega arith)) (omega arith)
count_few (suc k) n h = on (ltb 9 n)
    (λ e. let more = count_more n (ltb-true 9 n e) in let p = pow-suc 10 (suc k) in omega (arith, count_few k (n / 10) (omega arith)))
    (λ e. let one = count_one n (ltb-false 9 n e) in omega arith)

-- ---------- the number by its logarithm

pow-pos : (k : ℕ) → 0 < 10 ^ k
pow-pos zero = omega arith
pow-pos (suc k) = omega (arith, pow-suc 10 k, pow-pos k)

-- it has one digit more than the power of ten below it has zeros
count_by_power : (k n : ℕ) → 10 ^ k ≤ n → n < 10 * 10 ^ k → digit_count n ≡ k + 1
count_by_power zero n h p = count_one n (omega arith)
count_by_power (suc k) n h p =
    let q = pow-suc 10 k in
    let some = pow-pos k in
    count_more n (omega arith) ∙ omega (arith, count_by_power k (n / 10) (omega arith) (omega arith))

-- and 0 has one digit, as 1 has
pub count_by_log : (n k : ℕ) → 10 ^ k ≤ max n 1 → max n 1 < 10 * 10 ^ k → k + 1 ≡ digit_count n
count_by_log zero zero h p = sym (count_one 0 (omega arith))
count_by_log zero (suc k) h p = let q = pow-suc 10 k in let some = pow-pos k in absurd (omega arith)
count_by_log (suc n) k h p = sym (count_by_power k (suc n) (omega arith) (omega arith))
