-- Laws of a mask with one bit an entry, over the width, the row and the test of an entry. Assumes nothing.
use mathlib.Core.Path.{◌≡◌, refl}
use mathlib.Core.Bool.{Bool, true, false}
use mathlib.Core.List.{List, [], ◌∷◌}
use Prim.Native.Nat.{ℕ, zero, suc, ◌+◌, ◌*◌, ◌^◌, ◌/◌, ◌%◌, ◌≤◌, ◌<◌}
use native.Mathlib.Nat.{pow-suc, zero-div, div-one}
use native.Mathlib.Numerals.{one-add}
use lib.Arith.{digits_lt, digits_div, digits_mod}
use lib.Bits.{bit_and, bit_or, or_shifted, and_mask}
use lib.Dec.{lit<, eqb}
use lib.ListN.{length, get_or}
use lib.Pow.{shl_exact, shr-shr}
use mir.Val.{bool_byte}
use Rattle.rows.specs.Mask.{mask}

pub bit_lt : (b : Bool) → bool_byte b < 2
bit_lt true = lit< tt
bit_lt false = lit< tt

-- the test of a bit is the flag
pub bit_test : (b : Bool) → eqb (bool_byte b) 1 ≡ b
bit_test true = refl
bit_test false = refl

module _ {A : Type 0} (f : A → Bool) where
  pub mask_lt : (xs : List A) → mask f xs < 2 ^ length xs
  mask_lt [] = lit< tt
  mask_lt (x ∷ xs) = rw pow-suc (digits_lt (mask_lt xs) (bit_lt (f x)))

  -- an entry more, shifted in from below, in a number of w bits
  pub mask_shl : (w : ℕ) (xs : List A) (x : A) → length xs + 1 ≤ w → bit_or ((mask f xs * 2 ^ 1) % 2 ^ w) (bool_byte (f x)) ≡ mask f (x ∷ xs)
  mask_shl w xs x h = rw (shl_exact (length xs) 1 w (mask_lt xs) h) (or_shifted (mask f xs) 1 (bool_byte (f x)) (bit_lt (f x)))

  -- the bit at a place
  pub mask_at : (xs : List A) (d : A) → f d ≡ false → (i : ℕ) → mask f xs / 2 ^ i % 2 ≡ bool_byte (f (get_or xs i d))
  mask_at [] d z i = rw (zero-div, z)
  mask_at (x ∷ xs) d z zero = rw div-one (digits_mod (mask f xs) (bit_lt (f x)))
  mask_at (x ∷ xs) d z (suc i) =
      rw (← one-add i, ← shr-shr (mask f xs * 2 + bool_byte (f x)) 1 i, digits_div (mask f xs) (bit_lt (f x))) (mask_at xs d z i)

  -- its test as code makes it, `(mask >> i) & 1 == 1`: entry i passes
  pub mask_test : (xs : List A) (d : A) → f d ≡ false → (i : ℕ) → eqb (bit_and (mask f xs / 2 ^ i) 1) 1 ≡ f (get_or xs i d)
  mask_test xs d z i = rw (and_mask (mask f xs / 2 ^ i) 1, mask_at xs d z i) (bit_test (f (get_or xs i d)))
