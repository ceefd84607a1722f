-- Bytes laid over a buffer. Assumes nothing.
use Rattle.std.specs.Prelude.{◌≡◌, ℕ, ◌+◌, cond, List, [], ◌∷◌, ◌++◌, leb, length, set, drop}

-- l with the entries vs over its front, and the rest kept
abbrev pub over : {A : Type 0} → List A → List A → List A
over vs l = vs ++ drop (length vs) l

-- l after a store for each of vs, at i, i + 1, and so on: what stores at a moving place leave
abbrev pub puts : {A : Type 0} → List A → ℕ → List A → List A
puts l i [] = l
puts l i (v ∷ vs) = puts (set l i v) (i + 1) vs

-- what a writer that stores all or nothing lays down of bs at i: all of it where it fits into l
unfoldable pub fitting : List ℕ → ℕ → List ℕ → List ℕ
fitting l i bs = cond (leb (i + length bs) (length l)) bs []

-- a writer's promise: of bs it lays down at i what fits, and answers the place after it
pub record Laid (l : List ℕ) (i : ℕ) (bs : List ℕ) (r : ℕ) (l' : List ℕ) : Type 0 where
  pub place : r ≡ i + length (fitting l i bs)
  pub bytes : l' ≡ puts l i (fitting l i bs)
