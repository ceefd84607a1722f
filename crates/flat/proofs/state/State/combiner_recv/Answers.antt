-- Soundness promises the request of a client whose slot is set. Assumes nothing.
use Rattle.std.proofs.lemmas.Result.{err_from_is_err_and}
use Rattle.machine.proofs.Answering.{quiet_refused}
use Rattle.machine.proofs.Refusing.{number_nonzero}
use Rattle.flat.specs.Single.{stepper}
use Rattle.flat.proofs.Moved.{combiner_recv_code}
use Rattle.flat.proofs.state.State.combiner_recv.Goals as goal

pub returns-in_err-gathered : goal.returns-in_err-gathered
returns-in_err-gathered c = λ safe.
    let p = err_from_is_err_and c.from_residual-in_err-gathered.result c.from_residual-in_err-gathered.ensures.1 in
    let refused = combiner_recv_code c.args.self.now safe _ c.in_ok-i.ensures.0 c.in_ok-may_gather.ensures _ c.in_err-gathered.ensures in
    rw (p.1, p.2) (search (quiet_refused stepper, refused, number_nonzero))
