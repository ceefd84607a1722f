-- `lines::verdict::write_lines` meets its contract: nothing where there is not the room or a row is too long, else the three lines, one behind the other. Assumes nothing.
use borrow.Author.Rules.{rules}
use Rattle.lines.proofs.Written.{room_short, log_long, image_long, log_room_lem, state_room, lines_written}
use Rattle.lines.proofs.verdict.write_lines.Goals.{then-out-lt-MOST-via-then-out-lt-MOST, then-out-lt-MOST-via-else-out-lt-MOST+then-log-gt-LOG, then-out-lt-MOST-via-else-out-lt-MOST+else-log-gt-LOG+then-image-gt-IMAGE}
use Rattle.lines.proofs.verdict.write_lines.Goals as goal

pub returns-then-out-lt-MOST : goal.returns-then-out-lt-MOST
returns-then-out-lt-MOST c =
    elim c.then-out-lt-MOST.branch [
      | then-out-lt-MOST-via-then-out-lt-MOST w ↦ search (rules, room_short)
      | then-out-lt-MOST-via-else-out-lt-MOST+then-log-gt-LOG w ↦ search (rules, log_long)
      | then-out-lt-MOST-via-else-out-lt-MOST+else-log-gt-LOG+then-image-gt-IMAGE w ↦ search (rules, image_long)
    ]

pub put_row-b-requires : goal.put_row-b-requires
put_row-b-requires c =
    let laid = c.put_verdict-a.ensures.laid in
    let few = c.put_verdict-a.ensures.bounded in
    log_room_lem c.args.out.now c.args.answer c.args.log.now c.args.image.now (search rules) (search rules) (search rules) few _ _ laid _ c.front.ensures

pub put_row-c-requires : goal.put_row-c-requires
put_row-c-requires c =
    let laid = c.put_verdict-a.ensures.laid in
    let few = c.put_verdict-a.ensures.bounded in
    state_room c.args.out.now c.args.answer c.args.log.now c.args.image.now (search rules) (search rules) (search rules) few _ _ laid _ c.front.ensures _ _ c.put_row-b.ensures _ c.front-2.ensures

pub returns : goal.returns
returns c =
    let laid = c.put_verdict-a.ensures.laid in
    let few = c.put_verdict-a.ensures.bounded in
    search (rules, lines_written)
