-- Bytes and the numbers that they spell, big-endian, of any width. Assumes nothing.
use Rattle.std.proofs.Common.{sym, ap}
use Rattle.std.proofs.Math.Nat.{mod-eq_of_lt}
use Rattle.std.specs.Prelude.{◌≡◌, ℕ, zero, suc, ◌+◌, ◌*◌, ◌/◌, ◌%◌, ◌^◌, ◌<◌, Bool, true, false, cond, ◌&&◌, List, [], ◌∷◌, eqb, leb, length, get_or, take, drop}

-- every entry is a byte, as in every slice of u8
abbrev pub Bytes : List ℕ → Type 0
Bytes bs = (i : ℕ) → get_or bs i 0 < 256

-- the number n with the bytes bs behind it
abbrev pub onwards : ℕ → List ℕ → ℕ
onwards n [] = n
onwards n (b ∷ bs) = onwards (n * 256 + b) bs

-- the number that the bytes spell: 1 ∷ 2 ∷ [] is 1 * 256 + 2, and no bytes are 0
abbrev pub number : List ℕ → ℕ
number [] = 0
number (b ∷ bs) = onwards b bs

-- the last w bytes of n, in front of the bytes bs
abbrev pub before : ℕ → ℕ → List ℕ → List ℕ
before zero n bs = bs
before (suc w) n bs = before w (n / 256) (n % 256 ∷ bs)

-- n in w bytes: big 2 n is n / 256 % 256 ∷ n % 256 ∷ []
abbrev pub big : ℕ → ℕ → List ℕ
big w n = before w n []

-- the w bytes of s from `at` on, or none where s does not have them all
unfoldable pub bytes_at : List ℕ → ℕ → ℕ → List ℕ
bytes_at s at w = cond (leb (at + w) (length s)) (take w (drop at s)) []

-- the number in the w bytes of s from `at` on, 0 where s does not have them all
abbrev pub number_at : List ℕ → ℕ → ℕ → ℕ
number_at s at w = number (bytes_at s at w)

-- whether two lists of numbers are the same: for tables of cases, which compute
abbrev pub alike : List ℕ → List ℕ → Bool
alike [] [] = true
alike [] (y ∷ ys) = false
alike (x ∷ xs) [] = false
alike (x ∷ xs) (y ∷ ys) = eqb x y && alike xs ys

-- a byte is the one byte of itself
pub big_one : (n : ℕ) → n < 256 ^ 1 → n ∷ [] ≡ big 1 n
big_one n h = ap (λ (b : ℕ). b ∷ []) (sym (mod-eq_of_lt h))
