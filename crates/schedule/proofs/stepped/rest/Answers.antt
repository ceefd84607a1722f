-- A state that is not sound is refused, a fault is answered as it is counted, and else the steps are replayed. Assumes nothing.
use mathlib.Core.Path.{◌≡◌, sym, ◌∙◌}
use mathlib.Core.Bool.{true}
use Rattle.schedule.proofs.Running.{faulty_leaves}
use Rattle.schedule.proofs.stepped.rest.Goals as goal

pub returns-in-Err : goal.returns-in-Err
returns-in-Err g c =
    let m = g.M.Stepped in
    let a = c.args in
    let safe : m.sound (m.state a.start) ≡ true = sym c.is_sound.ensures ∙ c.if-not-is_sound.false in
    let counted = rw (c.byte.ensures, c.kind.ensures) at c.count.ensures in
    rw safe
    (faulty_leaves m.runner c.carries.ensures (m.state a.start) a.file.now a.from a.log.now a.image.now c.count.result counted c.in-Err.fault c.in-Err.is _ c.from.ensures)
