-- How the steps of a kind are written: a length byte, a tag, and the step's numbers. Assumes nothing.
use Rattle.std.specs.Prelude.{ℕ, ◌+◌, ◌<◌, ◌^◌, List, [], ◌∷◌, ◌++◌}
use Rattle.rows.specs.Bytes.{number_at, big}
use Rattle.schedule.specs.Widths.{length_of, number_widths}

-- the tag and the numbers of a kind's steps, and the step that a tag and numbers make
pub record Language (S : Type 0) : Type 0 where
  pub kind : ℕ
  pub tag : S → ℕ
  pub numbers : S → List ℕ
  pub step : ℕ → List ℕ → S

-- the numbers of these widths from a place of the file on
abbrev pub numbers_at : List ℕ → ℕ → List ℕ → List ℕ
numbers_at f at [] = []
numbers_at f at (w ∷ ws) = number_at f at w ∷ numbers_at f (at + w) ws

-- the bytes of numbers of these widths
abbrev pub number_bytes : List ℕ → List ℕ → List ℕ
number_bytes [] ns = []
number_bytes (w ∷ ws) [] = []
number_bytes (w ∷ ws) (n ∷ ns) = big w n ++ number_bytes ws ns

-- there is a number for each width, and it fits
abbrev pub Fit : List ℕ → List ℕ → Type 0
Fit [] [] = Unit {0}
Fit [] (n ∷ ns) = ⊥
Fit (w ∷ ws) [] = ⊥
Fit (w ∷ ws) (n ∷ ns) = (n < 256 ^ w) × Fit ws ns

module _ {S : Type 0} (l : Language S) where
  -- the step whose length byte stands at a place of the file
  unfoldable pub step_at : List ℕ → ℕ → S
  step_at f at =
      let t = number_at f (at + 1) 1 in
      l.step t (numbers_at f (at + 1 + 1) (number_widths l.kind t))

  -- the step of a tag whose numbers stand at a place of the file
  abbrev pub tagged_at : List ℕ → ℕ → ℕ → S
  tagged_at f t at = l.step t (numbers_at f at (number_widths l.kind t))

  -- a step's length, what it takes with its length byte, and its bytes
  abbrev pub step_length : S → ℕ
  step_length x = length_of l.kind (l.tag x)

  abbrev pub size_of : S → ℕ
  size_of x = 1 + step_length x

  abbrev pub step_bytes : S → List ℕ
  step_bytes x = step_length x ∷ l.tag x ∷ number_bytes (number_widths l.kind (l.tag x)) (l.numbers x)

  -- the step's numbers fit the bytes that they take
  abbrev pub Writable : S → Type 0
  Writable x = Fit (number_widths l.kind (l.tag x)) (l.numbers x)

-- the steps of a kind as they are spelled: a step is its tag and its numbers
abbrev pub spelled : ℕ → Language (ℕ × List ℕ)
spelled k = record { kind = k; tag = λ x. x.0; numbers = λ x. x.1; step = λ t ns. (t, ns) }
