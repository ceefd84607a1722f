-- `shared_release` meets its contract: the place's test, and then the cell, whose numbers soundness keeps in range. Assumes nothing.
use Rattle.machine.specs.Refusals.{number}
use Rattle.schedule.specs.declared.steps.LockStep.TheVariants.{SharedRelease}
use Rattle.lock.specs.Lock.{cell}
use Rattle.lock.proofs.Arms.{shared_release_fair}
use Rattle.lock.proofs.Stepping.{kept}
use Rattle.lock.proofs.state.State.shared_release.Goals as goal

pub returns-in_err-self : goal.returns-in_err-self
returns-in_err-self c =
    let s = c.args.self.now in
    let i = c.in_ok-i.i in
    let why = c.in_err-self.field-0.0 in
    λ safe.
    let refused = shared_release_fair s i c.args.r c.in_ok-i.ensures.0 (cell s i) (number why) c.args.t c.in_err-self.ensures safe c.in_ok-inside.ensures in
    kept s (SharedRelease c.args.r c.args.t) c.from_residual-in_err-self.result why c.from_residual-in_err-self.ensures.1 refused.own
