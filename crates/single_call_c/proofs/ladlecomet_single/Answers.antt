-- `single_call_c::ladlecomet_single` meets its contract: the single step, and its entry's length laid down. Assumes nothing.
use Rattle.single_call.proofs.Exporting.{no_room, exports}
use Rattle.single_call_c.proofs.ladlecomet_single.Goals as goal

pub returns-then-figures-lt4 : goal.returns-then-figures-lt4
returns-then-figures-lt4 c = search no_room

pub returns : goal.returns
returns c =
    let room = c.if-figures-lt4.false in
    exports _ _ _ _ _ c.single_call-answer.result _ _ c.single_call-answer.ensures room _ c.map.result c.map.ensures.cases _ c.code_of.ensures _ _ _ c.unwrap_or.ensures c.put_last4.ensures
