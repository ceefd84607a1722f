-- The tests in front of the machine's own go by rising code; what the machine answers is what the single step answers. Assumes nothing.
use mathlib.Core.Path.{sym, ◌∙◌}
use native.Mathlib.Omega.{arith}
use Rattle.schedule.proofs.Applying.{applied_single}
use Rattle.schedule.proofs.stepped.tried.Goals as goal

pub returns : goal.returns
returns g c =
    let m = g.M.Stepped in
    let a = c.args in
    let safe = sym c.is_sound.ensures ∙ c.if-not-is_sound.false in
    applied_single m.runner c.carries.ensures m.own_of m.sound (m.state a.s.now) a.x (m.step c.in-Some.own) c.in-Some.ensures a.log.now (omega arith) safe
    c.apply.result (m.state c.apply.new.self) c.apply.new.log (c.apply.ensures safe)
