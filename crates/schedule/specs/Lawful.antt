-- What reading and writing ask of a language of steps. Assumes nothing.
use Rattle.std.specs.Prelude.{◌≡◌, ℕ, ◌<◌, ◌≤◌, List, ◌∷◌, length}
use Rattle.schedule.specs.Widths.{widths_of, length_of, number_widths}
use Rattle.schedule.specs.Language.{Language}

-- of a step: its tag and numbers make it again, its tag takes a byte, and it takes at most 10 bytes behind its length byte
pub record Spelled {S : Type 0} (l : Language S) (x : S) : Type 0 where
  pub again : l.step (l.tag x) (l.numbers x) ≡ x
  pub tagged : widths_of l.kind (l.tag x) ≡ 1 ∷ number_widths l.kind (l.tag x)
  pub short : length_of l.kind (l.tag x) ≤ 10

-- of a tag and numbers: the step that they make has them
pub record Kept {S : Type 0} (l : Language S) (t : ℕ) (ns : List ℕ) : Type 0 where
  pub tag : l.tag (l.step t ns) ≡ t
  pub numbers : l.numbers (l.step t ns) ≡ ns

-- it does wherever the kind has the tag and the tag takes as many numbers
abbrev pub Keeps : {S : Type 0} → Language S → Type 0
Keeps l = (t : ℕ) (ns : List ℕ) → 0 < length_of l.kind t → length ns ≡ length (number_widths l.kind t) → Kept l t ns

pub record Lawful {S : Type 0} (l : Language S) : Type 0 where
  pub spelled : (x : S) → Spelled l x
  pub kept : Keeps l
