-- Soundness promises the response of a client whose slot is clear. Assumes nothing.
use mathlib.Core.Path.{refl}
use Rattle.std.proofs.lemmas.Result.{err_from_is_err_and}
use Rattle.flat.proofs.Moved.{client_recv_code}
use Rattle.flat.proofs.state.State.client_recv.Goals as goal

pub returns-in_err-self : goal.returns-in_err-self
returns-in_err-self c = λ safe.
    let p = err_from_is_err_and c.from_residual-in_err-self.result c.from_residual-in_err-self.ensures.1 in
    let own = client_recv_code c.args.self.now safe _ _ c.in_ok-i.ensures.0 c.in_ok-i.ensures.2 _ c.in_err-self.ensures in
    rw (p.1, p.2) (record { own = own; state = refl; log = refl })
