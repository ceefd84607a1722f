-- `lines::decimal::put_digits` meets its contract: the loop's invariant says that the digits left, stored, end as all of them. Assumes nothing.
use Rattle.lines.proofs.Spelling.{Spelling}
use Rattle.lines.proofs.decimal.put_digits.Given as goal

abbrev pub invariant-loop-i : goal.invariant-loop-i
invariant-loop-i l = Spelling l.initial.out l.at l.n l.k l.out l.i l.rest
