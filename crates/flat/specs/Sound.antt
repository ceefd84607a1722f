-- When a state is sound: the test that the code makes, one walk over the clients, each with its element. specs/Refined.antt says what it means.
-- Assumes nothing.
use Rattle.std.specs.Prelude.{ℕ, Bool, cond, not, ◌&&◌, eqb, ltb, leb}
use Rattle.rows.specs.Walk.{every}
use Rattle.schedule.specs.Limits as limit
use Rattle.flat.specs.Flat.{elem}
use Rattle.flat.specs.declared.state.Client.{Client}
use Rattle.flat.specs.declared.state.Elem.{Elem}
use Rattle.flat.specs.declared.state.State.{State}

-- clients in their limits; responding with all gathered, or collecting with the cursor at rest
abbrev pub combiner_sound : ℕ → ℕ → ℕ → Bool → Bool
combiner_sound count len idx responding =
    not (ltb limit.clients count)
    && cond responding (eqb len count && leb idx count) (leb len count && eqb idx 0)

-- an element that was not gathered is zero, and so is the id of an empty one
abbrev pub elem_sound : ℕ → ℕ → Elem → Bool
elem_sound j len e = cond e.present (ltb j len) (eqb e.rid 0)

-- the combiner has the client's id: gathered, and not answered yet
abbrev pub held_from : ℕ → ℕ → ℕ → Elem → Bool
held_from j len idx e = e.present && (ltb j len && leb idx j)

-- a waiting client was gathered, has its request stored, or its response; an idle one is zero
abbrev pub is_gathered : Client → Bool
is_gathered c = not c.asked && (not c.told && (eqb c.req 0 && (eqb c.resp 0 && c.slot)))

abbrev pub is_asking : Client → Bool
is_asking c = not c.told && (eqb c.resp 0 && c.slot)

abbrev pub is_answered : Client → Bool
is_answered c = not c.slot && (eqb c.req 0 && c.told)

abbrev pub is_resting : Client → Bool
is_resting c = not c.asked && (not c.told && (not c.slot && (eqb c.rid 0 && (eqb c.req 0 && eqb c.resp 0))))

abbrev pub client_sound : ℕ → ℕ → Bool → Client → Elem → Bool
client_sound j count has c e =
    cond c.waiting
    (not (leb count j)
    && cond has (eqb c.rid e.rid && is_gathered c) (cond c.asked (is_asking c) (is_answered c)))
    (not has && is_resting c)

abbrev pub place_sound_at : ℕ → ℕ → ℕ → ℕ → Client → Elem → Bool
place_sound_at j count len idx c e = elem_sound j len e && client_sound j count (held_from j len idx e) c e

abbrev pub place_sound : State → ℕ → Client → Bool
place_sound s j c = place_sound_at j s.count s.len s.idx c (elem s j)

abbrev pub sound : State → Bool
sound s = combiner_sound s.count s.len s.idx s.responding && every (place_sound s) 0 s.clients
