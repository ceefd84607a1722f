-- Each accepted step keeps what the rest of the run is to leave, and each way out is what the whole run leaves. Assumes nothing.
use mathlib.Core.Path.{refl}
use Rattle.schedule.specs.Language.{tagged_at}
use Rattle.schedule.proofs.PastEnd.{spells}
use Rattle.schedule.proofs.Running.{ahead, ends}
use Rattle.schedule.proofs.Applying.{goes_on, stops_here}
use Rattle.schedule.proofs.stepped.run.Goals as goal

pub overflow_add-at : goal.overflow_add-at
overflow_add-at g c =
    let m = g.M.Stepped in
    let a = c.args in
    let l = c.loop-k in
    let p = m.runner.language in
    let x = tagged_at p c.tag_at-tag.result.1.now c.tag_at-tag.result.0 0 in
    let read = spells p c.tag_at-tag.result.1.now a.file.now c.tag_at-tag.result.0 l.at (c.tag_at-tag.ensures p.kind) in
    let u = l.invariant in
    rw c.in-Ok.ensures.sized
    (ahead m.runner u.0 a.file.now a.from a.n (m.state a.s.now) a.log.now a.used l.log (m.state l.s) l.at l.k l.w u.1 c.if-k-n.false x read x refl)

pub loop-k-preserved : goal.loop-k-preserved
loop-k-preserved g c =
    let m = g.M.Stepped in
    let a = c.args in
    let l = c.loop-k in
    let p = m.runner.language in
    let x = tagged_at p c.tag_at-tag.result.1.now c.tag_at-tag.result.0 0 in
    let read = spells p c.tag_at-tag.result.1.now a.file.now c.tag_at-tag.result.0 l.at (c.tag_at-tag.ensures p.kind) in
    let u = l.invariant in
    let went = c.in-Ok.ensures.applied (c.tells.ensures.holds (m.state l.s) u.1.good) in (
      u.0,
      rw c.in-Ok.ensures.sized
          (goes_on m.runner u.0 a.file.now a.from a.n (m.state a.s.now) a.log.now a.used l.log (m.state l.s) l.at l.k l.w u.1 c.if-k-n.false x read
          c.in-Ok.next (m.state c.turn.new.s) c.turn.new.log went),
    )

pub returns-then-k-n : goal.returns-then-k-n
returns-then-k-n g c =
    let m = g.M.Stepped in
    let a = c.args in
    let l = c.loop-k in
    let u = l.invariant in
    ends m.runner u.0 a.file.now a.from a.n (m.state a.s.now) a.log.now a.used l.log (m.state l.s) l.at l.k l.w u.1 c.if-k-n.true

pub returns-in-Err : goal.returns-in-Err
returns-in-Err g c =
    let m = g.M.Stepped in
    let a = c.args in
    let l = c.loop-k in
    let p = m.runner.language in
    let x = tagged_at p c.tag_at-tag.result.1.now c.tag_at-tag.result.0 0 in
    let read = spells p c.tag_at-tag.result.1.now a.file.now c.tag_at-tag.result.0 l.at (c.tag_at-tag.ensures p.kind) in
    let u = l.invariant in
    let stays = c.in-Err.ensures.applied (c.tells.ensures.holds (m.state l.s) u.1.good) in
    rw (stays.log, stays.state)
    (stops_here m.runner u.0 a.file.now a.from a.n (m.state a.s.now) a.log.now a.used l.log (m.state l.s) l.at l.k l.w u.1 c.if-k-n.false x read
    c.in-Err.why (m.state c.turn.new.s) c.turn.new.log stays)
