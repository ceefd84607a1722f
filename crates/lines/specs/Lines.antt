-- The three lines of an answer: the scope, "The program reads standard input and writes three lines". Assumes nothing.
use Rattle.std.specs.Prelude.{ℕ, ◌+◌, ◌*◌, ◌≤◌, ◌≡◌, cond, List, [], ◌∷◌, ◌++◌, ltb, length, take}
use Rattle.rows.specs.Stores.{over}
use Rattle.schedule.specs.Limits as limit
use Rattle.schedule.specs.declared.answer.Answer.{Answer}
use Rattle.lines.specs.Decimal.{decimal}
use Rattle.lines.specs.Hex.{shown}

-- the fixed words, in ASCII: "verdict ", " at ", a line end and "log ", a line end and "state ", a line end
abbrev pub verdict_word : List ℕ
verdict_word = 118 ∷ 101 ∷ 114 ∷ 100 ∷ 105 ∷ 99 ∷ 116 ∷ 32 ∷ []

abbrev pub at_word : List ℕ
at_word = 32 ∷ 97 ∷ 116 ∷ 32 ∷ []

abbrev pub log_word : List ℕ
log_word = 10 ∷ 108 ∷ 111 ∷ 103 ∷ 32 ∷ []

abbrev pub state_word : List ℕ
state_word = 10 ∷ 115 ∷ 116 ∷ 97 ∷ 116 ∷ 101 ∷ 32 ∷ []

abbrev pub line_end : List ℕ
line_end = 10 ∷ []

-- verdict C at P
abbrev pub verdict_line : ℕ → ℕ → List ℕ
verdict_line code place = verdict_word ++ (decimal code ++ (at_word ++ decimal place))

-- the first n bytes in hexadecimal digits, `-` where nothing was written, behind the line's name
abbrev pub row_line : List ℕ → ℕ → List ℕ → List ℕ
row_line name n bytes = name ++ shown (take n bytes)

abbrev pub lines_of : Answer → List ℕ → List ℕ → List ℕ
lines_of a log image =
    verdict_line a.code a.place ++ (row_line log_word a.logged log ++ (row_line state_word a.imaged image ++ line_end))

-- the most bytes of a first line: its words, a code of 3 digits and a place of 20
abbrev pub longest_verdict : ℕ
longest_verdict = 35

-- the longest log that a file has, and the most bytes that the lines can take
abbrev pub longest_log : ℕ
longest_log = limit.steps * limit.entry

abbrev pub most : ℕ
most = 2 * (longest_log + limit.image) + 50

unfoldable pub lines_in : ℕ → Answer → List ℕ → List ℕ → List ℕ
lines_in room a log image =
    cond (ltb room most) []
    (cond (ltb longest_log (length log)) []
    (cond (ltb limit.image (length image)) []
    (lines_of a log image)))

pub record Written (out : List ℕ) (a : Answer) (log image : List ℕ) (r : ℕ) (out' : List ℕ) : Type 0 where
  pub count : r ≡ length (lines_in (length out) a log image)
  pub bytes : out' ≡ over (lines_in (length out) a log image) out

-- the first r bytes of a buffer are there. The second part follows from the first; both stand so that `&buffer[..r]` needs no proof of its caller's
abbrev pub InFront : ℕ → List ℕ → Type 0
InFront r buffer = (r ≤ length buffer) × (r ≡ length (take r buffer))
