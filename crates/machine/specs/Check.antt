-- The tests of a step: the first that fails decides the code. Assumes nothing.
use Rattle.std.specs.Prelude.{◌≡◌, Bool, true, false, cond, ◌&&◌, List, [], ◌∷◌, ◌++◌, ℕ, leb}

-- one test: the step is refused with this code unless the test holds
pub record Check : Type 0 where
  pub code : ℕ
  pub holds : Bool

abbrev pub need : ℕ → Bool → Check
need c b = record { code = c; holds = b }

-- the code of the first test that fails, 0 where all hold
abbrev pub first : List Check → ℕ
first [] = 0
first (c ∷ cs) = cond c.holds (first cs) c.code

-- every test holds
abbrev pub All : List Check → Type 0
All [] = Unit {0}
All (c ∷ cs) = (c.holds ≡ true) × All cs

-- the codes rise from c on: "tests go by rising number"
abbrev pub rises : ℕ → List Check → Bool
rises c [] = true
rises c (d ∷ ds) = leb c d.code && rises d.code ds

-- the tests cs refuse with the code c: the tests before hold, and a test with this code fails
pub record FailsAt (cs : List Check) (c : ℕ) : Type 0 where
  pub before : List Check
  pub test : Check
  pub behind : List Check
  pub split : cs ≡ before ++ (test ∷ behind)
  pub held : All before
  pub fails : test.holds ≡ false
  pub code : test.code ≡ c
