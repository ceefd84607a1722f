-- `schedule::front::of_kind` meets its contract: a byte that no kind has is refused as such. Assumes nothing.
use Rattle.schedule.proofs.Opening.{unknown_kind}
use Rattle.schedule.proofs.front.of_kind.Goals as goal

pub returns-in-Err : goal.returns-in-Err
returns-in-Err c = let h = c.in-Err.ensures in unknown_kind c.args.kind c.args.file.now h
