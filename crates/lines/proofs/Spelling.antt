-- The digits of a number stored from the last to the first: the loop's invariant, a turn, its end. Assumes nothing.
use mathlib.Core.Path.{◌≡◌, refl, sym, ◌∙◌}
use mathlib.Core.List.{List, [], ◌∷◌, ◌++◌}
use Prim.Native.Nat.{ℕ, zero, suc, ◌+◌, ◌-◌, ◌/◌, ◌%◌, ◌≤◌, ◌<◌}
use native.Mathlib.Nat.{add-zero, sub-zero}
use native.Mathlib.Omega.{arith}
use lib.ListN.{length, set, length-set, length-append}
use lib.Seq.{set_comm}
use Rattle.rows.specs.Stores.{puts, Laid}
use Rattle.rows.proofs.Stores.{whole_laid, too_short, too_far}
use Rattle.lines.specs.Decimal.{digits, digit_count, decimal}

pub length_digits : (k n : ℕ) → length (digits k n) ≡ k
length_digits zero n = refl
length_digits (suc k) n = length-append (digits k (n / 10)) ((48 + n % 10) ∷ []) ∙ omega (arith, length_digits k (n / 10))

-- of a run of stores the last may be done first: the others are at other places
puts_last : (l : List ℕ) (i : ℕ) (vs : List ℕ) (v : ℕ) → puts l i (vs ++ (v ∷ [])) ≡ puts (set l (i + length vs) v) i vs
puts_last l i [] v = rw add-zero
puts_last l i (x ∷ vs) v =
    let e : i + 1 + length vs ≡ i + suc (length vs) = omega arith in
    puts_last (set l i x) (i + 1) vs v ∙ rw (e, set_comm l i (i + suc (length vs)) x v (λ q. omega arith))

-- from `at` on in the buffer out₀, k digits of n
module _ (out₀ : List ℕ) (at n k : ℕ) where
  -- i of them are stored, and those of the rest are left
  pub record Spelling (out : List ℕ) (i rest : ℕ) : Type 0 where
    pub below : i ≤ k
    pub room : at + k ≤ length out₀
    pub same : length out ≡ length out₀
    pub left : puts out at (digits (k - i) rest) ≡ puts out₀ at (digits k n)

  pub spelling_begins : at + k ≤ length out₀ → Spelling out₀ 0 n
  spelling_begins h = record { below = omega arith; room = h; same = refl; left = rw sub-zero }

  module _ (out : List ℕ) (i rest : ℕ) (g : Spelling out i rest) where
    pub spelling_more : i < k → Spelling (set out (at + (k - (i + 1))) (48 + rest % 10)) (i + 1) (rest / 10)
    spelling_more h =
        let j = k - (i + 1) in
        let d = 48 + rest % 10 in
        let one : k - i ≡ suc j = omega arith in
        let long = length_digits j (rest / 10) in
        record {
          below = omega arith;
          room = g.room;
          same = length-set out (at + j) d ∙ g.same;
          left = sym (rw long at (puts_last out at (digits j (rest / 10)) d)) ∙ (rw one at g.left);
        }

    pub spelling_ends : k ≤ i → Laid out₀ at (digits k n) (at + k) out
    spelling_ends h =
        let none : k - i ≡ 0 = omega arith in
        let long = length_digits k n in
        whole_laid out₀ at (digits k n) (at + k) out (omega (arith, g.room)) (omega arith) (rw none at g.left)

-- ---------- the whole number: all its digits, or none where they do not fit

module _ (l : List ℕ) (at n k : ℕ) (all : k ≡ digit_count n) where
  decimal_long : length (decimal n) ≡ k
  decimal_long = rw all (length_digits (digit_count n) n)

  pub decimal_short : length l < k → Laid l at (decimal n) at l
  decimal_short h = too_short l at (decimal n) (omega (arith, decimal_long))

  pub decimal_far : k ≤ length l → length l - k < at → Laid l at (decimal n) at l
  decimal_far h p = let long = decimal_long in too_far l at (decimal n) (omega arith) (rw long p)

  pub decimal_laid : (r : ℕ) (l' : List ℕ) → Laid l at (digits k n) r l' → Laid l at (decimal n) r l'
  decimal_laid r l' d = rw all at d
