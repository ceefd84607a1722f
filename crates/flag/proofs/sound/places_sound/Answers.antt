-- `flag::sound::places_sound` meets its contract: what is left of the row decides, and the counts go on with it. Assumes nothing.
use borrow.Author.Rules.{rules}
use Rattle.flag.proofs.Walking.{walking_begins, walking_few, five_fits, six_fits, walking_stops, walking_more, walking_ends}
use Rattle.flag.proofs.sound.places_sound.Goals as goal

pub loop-i-init : goal.loop-i-init
loop-i-init c = walking_begins _ (search rules)

pub overflow_add-fives : goal.overflow_add-fives
overflow_add-fives c = search (rules, five_fits)

pub overflow_add-sixes : goal.overflow_add-sixes
overflow_add-sixes c = search (rules, six_fits)

pub loop-i-preserved : goal.loop-i-preserved
loop-i-preserved c = search walking_more

pub returns-then-not-place_sound : goal.returns-then-not-place_sound
returns-then-not-place_sound c = search walking_stops

pub handshake-requires : goal.handshake-requires
handshake-requires c = search walking_few

pub returns : goal.returns
returns c = search walking_ends
