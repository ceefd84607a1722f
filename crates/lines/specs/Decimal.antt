-- A number in decimal digits. Assumes nothing.
use Rattle.std.specs.Prelude.{ℕ, zero, suc, ◌+◌, ◌/◌, ◌%◌, cond, List, [], ◌∷◌, ◌++◌, ltb}

-- the last k digits of n, in ASCII, the most significant first
abbrev pub digits : ℕ → ℕ → List ℕ
digits zero n = []
digits (suc k) n = digits k (n / 10) ++ ((48 + n % 10) ∷ [])

-- how many digits n has: one, and one more for each time that it can be divided by ten, of which n times are always enough
unfoldable pub digit_count_up_to : ℕ → ℕ → ℕ
digit_count_up_to zero n = 1
digit_count_up_to (suc times) n = cond (ltb 9 n) (suc (digit_count_up_to times (n / 10))) 1

abbrev pub digit_count : ℕ → ℕ
digit_count n = digit_count_up_to n n

abbrev pub decimal : ℕ → List ℕ
decimal n = digits (digit_count n) n
