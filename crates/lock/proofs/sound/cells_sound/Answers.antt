-- `lock::sound::cells_sound` meets its contract: `all` tells of the pairs what `every` says of the row. Assumes nothing.
use borrow.Author.Rules.{rules}
use mathlib.Core.Bool.{true, false}
use mathlib.Core.Path.{◌≡◌}
use Rattle.std.proofs.lemmas.Iterator.{cases_from_all, YieldsList-from_slice}
use Rattle.std.proofs.lemmas.Iterator.Consumers.{YieldsList-from_enumerate}
use Rattle.lock.specs.Sound.{cell_sound}
use Rattle.lock.proofs.Paired.{every_told}
use Rattle.lock.proofs.sound.cells_sound.Goals as goal

pub returns : goal.returns
returns c =
    let s = c.args.s in
    every_told (cell_sound s.head) s.cells c.all.result
    (cases_from_all _ _ _ (λ p. cell_sound s.head p.0 p.1 ≡ true) (λ p. cell_sound s.head p.0 p.1 ≡ false) c.all.ensures.ran
    (YieldsList-from_enumerate (YieldsList-from_slice s.cells cc) (cc)) (λ x q k. search rules) (λ x q k. search rules))
