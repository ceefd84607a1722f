-- The test of a made-up state says what soundness means, since its type tells how long the row of places is. Assumes nothing.
use borrow.Author.Rules.{rules}
use Rattle.flag.proofs.Sounds.{sound_means, means_sound}
use Rattle.flag.proofs.apply.StateStepped.tells.Goals as goal

pub returns : goal.returns
returns c = record { means = sound_means c.args.self.now (search rules); holds = means_sound }
