-- A step applied in place to a sound state does what the definition says. Assumes nothing.
use mathlib.Core.Path.{refl}
use Rattle.counting.proofs.Stepping.{silent_step}
use Rattle.counting.proofs.apply.StateStepped.apply.Goals as goal

pub returns-in_ok-writeable_to_readable-in-WriteableToReadable : goal.returns-in_ok-writeable_to_readable-in-WriteableToReadable
returns-in_ok-writeable_to_readable-in-WriteableToReadable c =
    let a = c.args in
    silent_step a.self.now a.x _ a.log.now _ c.in_ok-writeable_to_readable-in-WriteableToReadable.ensures c.in-WriteableToReadable.is refl a.at

pub returns-in_ok-delete_ref-in-DeleteRef : goal.returns-in_ok-delete_ref-in-DeleteRef
returns-in_ok-delete_ref-in-DeleteRef c =
    let a = c.args in
    silent_step a.self.now a.x _ a.log.now _ c.in_ok-delete_ref-in-DeleteRef.ensures c.in-DeleteRef.is refl a.at
