-- The room is tested, and the steps run are the file's. Assumes nothing.
use mathlib.Core.Path.{refl}
use Rattle.schedule.specs.Running.{left_by}
use Rattle.machine.specs.Refusals.{verdict_code}
use Rattle.schedule.proofs.Running.{product, runnable, log_short, image_short, ran_leaves}
use Rattle.schedule.proofs.stepped.replayed.Goals as goal

pub overflow_mul-n : goal.overflow_mul-n
overflow_mul-n g c = product g.M.Stepped.runner.language.kind c.args.file.now c.args.from c.args.n c.requires.counts

pub returns-then-log-n : goal.returns-then-log-n
returns-then-log-n g c =
    let m = g.M.Stepped in
    let a = c.args in
    log_short m.runner c.carries.ensures (m.state a.start) a.file.now a.from a.log.now a.image.now a.n c.requires.counts c.if-log-n.true _ c.of_refusal.ensures

pub returns-then-image-lt-IMAGE : goal.returns-then-image-lt-IMAGE
returns-then-image-lt-IMAGE g c =
    let m = g.M.Stepped in
    let a = c.args in
    image_short m.runner c.carries.ensures (m.state a.start) a.file.now a.from a.log.now a.image.now a.n c.requires.counts c.if-log-n.false c.if-image-lt-IMAGE.true _ c.of_refusal-then-image-lt-IMAGE.ensures

pub run-ran-requires : goal.run-ran-requires
run-ran-requires g c =
    let m = g.M.Stepped in
    let a = c.args in
    runnable m.runner c.carries.ensures (m.state a.start) a.file.now a.from a.log.now a.image.now a.n c.requires.counts c.requires.good c.if-log-n.false

pub returns : goal.returns
returns g c =
    let m = g.M.Stepped in
    let a = c.args in
    let ran = c.run-ran in
    let e = left_by m.runner (verdict_code ran.result.verdict) ran.result.place (m.state ran.new.s) ran.new.log ran.result.logged in
    rw c.code_of.ensures
    (ran_leaves m.runner c.carries.ensures (m.state a.start) a.file.now a.from a.log.now a.image.now a.n c.requires.counts c.if-log-n.false c.if-image-lt-IMAGE.false e
    ran.ensures _ _ c.image.ensures _ refl)
