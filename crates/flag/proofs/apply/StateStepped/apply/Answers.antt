-- A step applied in place to a sound state does what the definition says. Assumes nothing.
use Rattle.std.proofs.lemmas.Result.{err_from_is_err_and}
use Rattle.flag.proofs.Stepping.{move_refused, begin_accepted}
use Rattle.flag.proofs.apply.StateStepped.apply.Goals as goal

pub returns-in_err-may_move-in-Move : goal.returns-in_err-may_move-in-Move
returns-in_err-may_move-in-Move c =
    let i = c.in_ok-i-in-Move in let arm = c.in_err-may_move-in-Move in let exit = c.from_residual-in_err-may_move-in-Move in
    let p = err_from_is_err_and exit.result exit.ensures.1 in
    rw (p.1, p.2)
    (λ safe. move_refused c.args.self.now c.args.x c.in-Move.k i.ensures.2 _ i.ensures.0 c.args.log.now arm.field-0.0 arm.ensures safe c.in-Move.is)

pub returns-in_ok-may_begin-in-Begin : goal.returns-in_ok-may_begin-in-Begin
returns-in_ok-may_begin-in-Begin c =
    let i = c.in_ok-i-in-Begin in
    λ safe. begin_accepted c.args.self.now c.args.x c.in-Begin.k i.ensures.2 _ i.ensures.0 c.args.log.now c.in_ok-may_begin-in-Begin.ensures c.in-Begin.is
    c.args.at
