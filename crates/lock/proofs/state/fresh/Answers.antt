-- `lock::state::fresh` meets its contract: the width's two tests decide. Assumes nothing.
use Prim.Native.Nat.{◌≤◌}
use native.Mathlib.Omega.{arith}
use mathlib.Core.Logic.{inl, inr}
use Rattle.schedule.specs.Limits as limit
use Rattle.lock.proofs.Zeros.{zero_state, fresh_bad, fresh_good}
use Rattle.lock.proofs.state.fresh.Goals as goal
use Rattle.lock.proofs.state.fresh.Goals.{then-width-eq0-via-then-width-eq0, then-width-eq0-via-else-width-eq0+then-from-gt-WIDTH}

pub returns-then-width-eq0 : goal.returns-then-width-eq0
returns-then-width-eq0 c =
    let s = c.default.result in
    fresh_bad c.args.width c.args.t s (zero_state s c.default.ensures.0 c.default.ensures.1)
    (elim c.then-width-eq0.branch [
      | then-width-eq0-via-then-width-eq0 w ↦ inl w.if-width-eq0.true
      | then-width-eq0-via-else-width-eq0+then-from-gt-WIDTH w ↦ inr (omega (arith, w.from.ensures, w.if-from-gt-WIDTH.true))
    ])

pub returns : goal.returns
returns c =
    let few : c.args.width ≤ limit.width = omega (arith, c.from.ensures, c.if-from-gt-WIDTH.false) in
    fresh_good c.args.width c.args.t c.default-2.result c.default-2.ensures c.default-3.result.cells c.default-3.ensures.1 c.if-width-eq0.false few
