-- `schedule::lengths::step_in` meets its contract: the length byte is tested in the definition's order: 0, past the file's end, not its tag's. Assumes nothing.
use Rattle.schedule.proofs.MeasureTests.{at_end, at_zero, at_past, at_unknown, row_whole, row_other}
use Rattle.schedule.proofs.lengths.step_in.Goals as goal

pub returns-then-file-at : goal.returns-then-file-at
returns-then-file-at c = λ kind table. search at_end

pub returns-then-n-eq0 : goal.returns-then-n-eq0
returns-then-n-eq0 c = λ kind table. search at_zero

pub returns-then-file-b : goal.returns-then-file-b
returns-then-file-b c = λ kind table. search at_past

pub returns-then-tag-ge-TAGS : goal.returns-then-tag-ge-TAGS
returns-then-tag-ge-TAGS c = λ kind table. search at_unknown

pub returns-then-own-n : goal.returns-then-own-n
returns-then-own-n c = λ kind table. search row_other

pub returns : goal.returns
returns c = λ kind table. search row_whole
