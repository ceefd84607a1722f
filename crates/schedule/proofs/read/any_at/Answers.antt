-- `schedule::read::any_at` meets its contract: a byte that no kind has is no kind's of the first three. Assumes nothing.
use borrow.Author.Tests.{ne_eqb}
use Rattle.schedule.specs.Widths as kinds
use Rattle.schedule.specs.declared.kinds.Kind.TheVariants as kind
use Rattle.schedule.proofs.read.any_at.Goals as goal

pub returns-in-Err : goal.returns-in-Err
returns-in-Err c =
    let other = c.in-Err.ensures in
    let k = c.args.kind in
    rw (
      ne_eqb k kinds.flat (other kind.Flat),
      ne_eqb k kinds.lock (other kind.Lock),
      ne_eqb k kinds.counting (other kind.Counting),
      c.step_at-in-Err.ensures,
    )
