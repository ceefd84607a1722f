-- `schedule::lengths::length_of` meets its contract: the table says what the widths say, and what it does not have is no step. Assumes nothing.
use Rattle.schedule.proofs.InTable.{length_in, length_out, length_past}
use Rattle.schedule.proofs.lengths.length_of.Goals as goal

pub returns-then-row-ge-KINDS : goal.returns-then-row-ge-KINDS
returns-then-row-ge-KINDS c = search length_out

pub returns-then-column-lt-TAGS : goal.returns-then-column-lt-TAGS
returns-then-column-lt-TAGS c = search length_in

pub returns-else-column-lt-TAGS : goal.returns-else-column-lt-TAGS
returns-else-column-lt-TAGS c = search length_past
