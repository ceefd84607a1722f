-- `schedule::lengths::row_of` meets its contract: the table's row says what the widths say, and a kind that there is not has no step. Assumes nothing.
use Rattle.schedule.proofs.InTable.{row_in, row_out}
use Rattle.schedule.proofs.lengths.row_of.Goals as goal

pub returns-then-row-lt-KINDS : goal.returns-then-row-lt-KINDS
returns-then-row-lt-KINDS c = search row_in

pub returns-else-row-lt-KINDS : goal.returns-else-row-lt-KINDS
returns-else-row-lt-KINDS c = search row_out
