-- `flag::sound::places_sound` meets its contract: what is left of the row decides, and the counts go on with it. Assumes nothing.
use Rattle.flag.proofs.Walking.{Walking}
use Rattle.flag.proofs.sound.places_sound.Given as goal

abbrev pub invariant-loop-i : goal.invariant-loop-i
invariant-loop-i l = Walking l.fn.s l.i l.fives l.sixes
