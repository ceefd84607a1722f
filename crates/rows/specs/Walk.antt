-- Walks over a row: a test of every entry, a count, a sum, a fold, a piece for each entry. Assumes nothing.
use Rattle.std.specs.Prelude.{ℕ, suc, ◌+◌, Bool, true, false, cond, ◌&&◌, List, [], ◌∷◌, ◌++◌, ltb}

-- the test f passes at each entry and its place, counted from i
abbrev pub every : {A : Type 0} → (ℕ → A → Bool) → ℕ → List A → Bool
every f i [] = true
every f i (x ∷ xs) = f i x && every f (i + 1) xs

-- b with each entry and its place taken in, from the left
abbrev pub folded : {A B : Type 0} → (B → ℕ → A → B) → B → ℕ → List A → B
folded g b i [] = b
folded g b i (x ∷ xs) = folded g (g b i x) (i + 1) xs

-- the sum of a number of each entry
abbrev pub sum : {A : Type 0} → (A → ℕ) → List A → ℕ
sum f [] = 0
sum f (x ∷ xs) = f x + sum f xs

-- a piece of each entry, one after the other
abbrev pub pieces : {A B : Type 0} → (A → List B) → List A → List B
pieces f [] = []
pieces f (x ∷ xs) = f x ++ pieces f xs

-- one more if the test holds. A test that computes to false leaves no trace
abbrev pub tick : Bool → ℕ → ℕ
tick true n = suc n
tick false n = n

-- a test as a number
abbrev pub bit : Bool → ℕ
bit true = 1
bit false = 0

-- how many entries pass a test
abbrev pub many : {A : Type 0} → (A → Bool) → List A → ℕ
many p [] = 0
many p (x ∷ xs) = tick (p x) (many p xs)

-- n, but no more than the limit: how many entries of a row are walked
abbrev pub at_most : ℕ → ℕ → ℕ
at_most limit n = cond (ltb n limit) n limit
