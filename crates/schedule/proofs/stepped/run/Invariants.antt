-- Each accepted step keeps what the rest of the run is to leave. Assumes nothing.
use Prim.Native.Nat.{◌-◌}
use Rattle.schedule.specs.Carries.{Carries}
use Rattle.schedule.proofs.Running.{Runs}
use Rattle.schedule.proofs.stepped.run.Given as goal

abbrev pub invariant-loop-k : goal.invariant-loop-k
invariant-loop-k g l =
    let m = g.M.Stepped in
    (o : Carries m.runner) × Runs m.runner o l.file l.from l.n (m.state l.initial.s) l.initial.log l.used l.log (m.state l.s) l.at l.k l.w

abbrev pub decreases-loop-k : goal.decreases-loop-k
decreases-loop-k g l = l.n - l.k
