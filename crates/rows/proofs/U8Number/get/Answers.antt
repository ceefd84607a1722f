-- A byte at a place is the entry there, and 0 outside. Assumes nothing.
use mathlib.Core.Path.{sym}
use native.Mathlib.Omega.{arith}
use Rattle.rows.proofs.Bytes.{number_at_one, number_at_outside}
use Rattle.rows.proofs.U8Number.get.Goals as goal

pub returns-then-at-s : goal.returns-then-at-s
returns-then-at-s c = let a = c.args in sym (number_at_one a.s.now a.at)

pub returns-else-at-s : goal.returns-else-at-s
returns-else-at-s c = let a = c.args in number_at_outside a.s.now a.at 1 (omega arith)
