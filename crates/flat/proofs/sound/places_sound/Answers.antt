-- `flat::sound::places_sound` meets its contract: `all` tells of the numbered pairs what `every` says of the row. Assumes nothing.
use borrow.Author.Rules.{rules}
use mathlib.Core.Path.{◌∙◌}
use Prim.Native.Nat.{ℕ, ◌≤◌}
use lib.ListN.{length}
use Rattle.std.proofs.lemmas.Iterator.{YieldsList-from_slice, YieldsList-from_zip}
use Rattle.std.proofs.lemmas.Iterator.Consumers.{YieldsList-from_enumerate}
use Rattle.std.proofs.lemmas.Iterator.Search.{all_from_yields_List}
use Rattle.rows.proofs.Rows.{row_long}
use Rattle.flat.specs.Flat.{zero_elem}
use Rattle.flat.specs.Sound.{place_sound_at}
use Rattle.flat.specs.declared.state.Client.{Client}
use Rattle.flat.specs.declared.state.Elem.{Elem}
use Rattle.flat.proofs.Paired.{paired}
use Rattle.flat.proofs.sound.places_sound.Goals as goal

pub returns : goal.returns
returns c =
    let s = c.args.s in
    let long : length s.clients ≤ length s.elems = search (rules, row_long) in
    all_from_yields_List (λ (p : ℕ × (Client × Elem)). place_sound_at p.0 s.count s.len s.idx p.1.0 p.1.1) c.all.new.self _ c.all.result c.all.ensures.ran
    (YieldsList-from_enumerate (YieldsList-from_zip (YieldsList-from_slice s.clients cc) (YieldsList-from_slice s.elems cc)) (cc))
    (λ x b q k. search rules)
    ∙ paired (λ j e i. place_sound_at j s.count s.len s.idx e i) s.elems zero_elem s.clients long
