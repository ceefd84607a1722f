-- `flag::moves::offerer` meets its contract: `position` finds the first place that offers, and else all are counted. Assumes nothing.
use Rattle.std.proofs.Common.{rules, tests, ◌≡◌, length}
use Rattle.std.proofs.lemmas.Iterator.{YieldsList-from_slice}
use Rattle.std.proofs.lemmas.Iterator.Search.{position_from_yields_List}
use Rattle.flag.specs.Sound.{at_second}
use Rattle.flag.proofs.Walking.{first_offer}
use Rattle.flag.proofs.moves.offerer.Goals as goal

pub returns : goal.returns
returns c =
    let long : length c.args.places ≡ 8 = search rules in
    let first = position_from_yields_List at_second _ _ c.position-first.result c.position-first.ensures.ran (YieldsList-from_slice c.args.places (cc))
    (λ x b q k. search (rules, tests)) in
    rw (c.unwrap_or.ensures, ← long) (first_offer c.args.places c.position-first.result first)
