-- The lines of two answers and the sixteen digits, computed: every character of the definitions counts. Assumes nothing.
use mathlib.Core.Path.{◌≡◌, refl}
use mathlib.Core.List.{[], ◌∷◌}
use Rattle.schedule.specs.declared.answer.Answer.{Answer}
use Rattle.lines.specs.Decimal.{digit_count_up_to}
use Rattle.lines.specs.Hex.{shown}
use Rattle.lines.specs.Lines.{lines_of}

-- a file that ran to its end, with ten bytes logged
abbrev pub ran : Answer
ran = record { place = 5; logged = 10; imaged = 2; code = 0 }

pub ran_lines : lines_of ran (9 ∷ 0 ∷ 0 ∷ 0 ∷ 0 ∷ 7 ∷ 0 ∷ 0 ∷ 0 ∷ 99 ∷ []) (0 ∷ 1 ∷ []) ≡
    -- verdict 0 at 5
    118 ∷ 101 ∷ 114 ∷ 100 ∷ 105 ∷ 99 ∷ 116 ∷ 32 ∷ 48 ∷ 32 ∷ 97 ∷ 116 ∷ 32 ∷ 53 ∷ 10 ∷
    -- log 09000000000700000063
    108 ∷ 111 ∷ 103 ∷ 32 ∷ 48 ∷ 57 ∷ 48 ∷ 48 ∷ 48 ∷ 48 ∷ 48 ∷ 48 ∷ 48 ∷ 48 ∷ 48 ∷ 55 ∷ 48 ∷ 48 ∷ 48 ∷ 48 ∷ 48 ∷ 48 ∷ 54 ∷ 51 ∷ 10 ∷
    -- state 0001
    115 ∷ 116 ∷ 97 ∷ 116 ∷ 101 ∷ 32 ∷ 48 ∷ 48 ∷ 48 ∷ 49 ∷ 10 ∷ []
unfolding digit_count_up_to
ran_lines = refl

-- a refusal, with nothing logged and no state
abbrev pub refused : Answer
refused = record { place = 4096; logged = 0; imaged = 0; code = 16 }

pub refused_lines : lines_of refused [] [] ≡
    -- verdict 16 at 4096
    118 ∷ 101 ∷ 114 ∷ 100 ∷ 105 ∷ 99 ∷ 116 ∷ 32 ∷ 49 ∷ 54 ∷ 32 ∷ 97 ∷ 116 ∷ 32 ∷ 52 ∷ 48 ∷ 57 ∷ 54 ∷ 10 ∷
    -- log -
    108 ∷ 111 ∷ 103 ∷ 32 ∷ 45 ∷ 10 ∷
    -- state -
    115 ∷ 116 ∷ 97 ∷ 116 ∷ 101 ∷ 32 ∷ 45 ∷ 10 ∷ []
unfolding digit_count_up_to
refused_lines = refl

-- 0123456789ABCDEF
pub all_digits : shown (1 ∷ 35 ∷ 69 ∷ 103 ∷ 137 ∷ 171 ∷ 205 ∷ 239 ∷ []) ≡
    48 ∷ 49 ∷ 50 ∷ 51 ∷ 52 ∷ 53 ∷ 54 ∷ 55 ∷ 56 ∷ 57 ∷ 65 ∷ 66 ∷ 67 ∷ 68 ∷ 69 ∷ 70 ∷ []
all_digits = refl
