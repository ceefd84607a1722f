-- The test of a state says its stages, and where they hold the test says so. Each part of the test once over its arguments. Assumes nothing.
use Prim.Native.Nat.{ℕ, ◌≤◌}
use mathlib.Core.Path.{◌≡◌, refl}
use mathlib.Core.Bool.{Bool, true, false, cond, not, ◌&&◌}
use native.Mathlib.Omega.{arith}
use lib.Dec.{eqb, ltb, leb}
use lib.ListN.{length, get_or-eq_default}
use borrow.Author.Tests.{eqb-true, eq-eqb, leb-true, le-leb, ltb-true, lt-ltb, ltb-false, le-ltb, not-true}
use Rattle.rows.specs.Walk.{every}
use Rattle.rows.proofs.Cases.{on, clash, both_true, true_both}
use Rattle.rows.proofs.Walks.{every_at, every_all}
use Rattle.schedule.specs.Limits as limit
use Rattle.flat.specs.Flat.{zero_client, zero_elem, client, elem}
use Rattle.flat.specs.Sound.{combiner_sound, elem_sound, held_from, is_gathered, is_asking, is_answered, is_resting, client_sound, place_sound_at, place_sound, sound}
use Rattle.flat.specs.declared.state.Client.{Client}
use Rattle.flat.specs.declared.state.Elem.{Elem}
use Rattle.flat.specs.declared.state.State.{State}
use Rattle.flat.proofs.Stages.{asking, held, answered, FreeAt, HasAt, Stand, rests, asks, is_held, is_told}
use Rattle.flat.proofs.Stages.{Mode, collects, responds, Stages, same_elem, same_client}

-- ---------- the combiner

combiner_told : (count len idx : ℕ) (m : Bool) → combiner_sound count len idx m ≡ true → (count ≤ limit.clients) × Mode m idx len count idx
combiner_told count len idx true t =
    let a = both_true (not (ltb limit.clients count)) (eqb len count && leb idx count) t in
    let b = both_true (eqb len count) (leb idx count) a.1 in
    (ltb-false limit.clients count (not-true (ltb limit.clients count) a.0), responds refl (eqb-true len count b.0) (leb-true idx count b.1) refl)
combiner_told count len idx false t =
    let a = both_true (not (ltb limit.clients count)) (leb len count && eqb idx 0) t in
    let b = both_true (leb len count) (eqb idx 0) a.1 in
    (ltb-false limit.clients count (not-true (ltb limit.clients count) a.0), collects refl (eqb-true idx 0 b.1) (leb-true len count b.0))

told_combiner : (count len idx : ℕ) (m : Bool) → count ≤ limit.clients → Mode m idx len count idx → combiner_sound count len idx m ≡ true
told_combiner count len idx m h (collects e z b) = rw (le-ltb limit.clients count h, e) (true_both (le-leb len count b) (eq-eqb idx 0 z))
told_combiner count len idx m h (responds e l b t) = rw (le-ltb limit.clients count h, e) (true_both (eq-eqb len count l) (le-leb idx count b))

-- ---------- an element

elem_told : (j len : ℕ) (e : Elem) → elem_sound j len e ≡ true → (len ≤ j → e ≡ zero_elem) × (e.present ≡ false → e.rid ≡ 0)
elem_told j len e t = on e.present
    (λ b. (λ h. absurd (omega (arith, ltb-true j len (rw b at t))), λ z. clash (cc)))
    (λ b. let r = eqb-true e.rid 0 (rw b at t) in (λ h. same_elem r b, λ z. r))

told_elem : (j len : ℕ) (e : Elem) → (len ≤ j → e ≡ zero_elem) → (e.present ≡ false → e.rid ≡ 0) → elem_sound j len e ≡ true
told_elem j len e u z = on e.present
    (λ b. rw b (on (ltb j len) (λ l. l) (λ l. clash (cc (u (ltb-false j len l))))))
    (λ b. rw b (eq-eqb e.rid 0 (z b)))

module _ (j len idx : ℕ) (e : Elem) where
  held_told : held_from j len idx e ≡ true → HasAt j len idx e e.rid
  held_told t =
      let a = both_true e.present (ltb j len && leb idx j) t in
      let b = both_true (ltb j len) (leb idx j) a.1 in
      (leb-true idx j b.1, ltb-true j len b.0, same_elem refl a.0)

  told_held : (rid : ℕ) → HasAt j len idx e rid → held_from j len idx e ≡ true
  told_held rid h = rw h.2 (true_both (lt-ltb j len h.1) (le-leb idx j h.0))

  free_told : held_from j len idx e ≡ false → FreeAt j len idx e
  free_told t x y = on e.present
      (λ b. clash (cc (rw (b, lt-ltb j len y, le-leb idx j x) at t)))
      (λ b. b)

  told_free : FreeAt j len idx e → held_from j len idx e ≡ false
  told_free f = on (held_from j len idx e)
      (λ b. let h = held_told b in clash (cc (f h.0 h.1)))
      (λ b. b)

-- ---------- a client

resting_told : (c : Client) → c.waiting ≡ false → is_resting c ≡ true → c ≡ zero_client
resting_told c w t =
    let a = both_true _ _ t in
    let b = both_true _ _ a.1 in
    let d = both_true _ _ b.1 in
    let e = both_true _ _ d.1 in
    let f = both_true _ _ e.1 in
    same_client (eqb-true _ _ e.0) (eqb-true _ _ f.0) (eqb-true _ _ f.1) w (not-true _ a.0) (not-true _ b.0) (not-true _ d.0)

gathered_told : (c : Client) → c.waiting ≡ true → is_gathered c ≡ true → c ≡ held c.rid
gathered_told c w t =
    let a = both_true _ _ t in
    let b = both_true _ _ a.1 in
    let d = both_true _ _ b.1 in
    let e = both_true _ _ d.1 in
    same_client refl (eqb-true _ _ d.0) (eqb-true _ _ e.0) w (not-true _ a.0) (not-true _ b.0) e.1

asking_told : (c : Client) → c.waiting ≡ true → c.asked ≡ true → is_asking c ≡ true → c ≡ asking c.rid c.req
asking_told c w k t =
    let a = both_true _ _ t in
    let b = both_true _ _ a.1 in
    same_client refl refl (eqb-true _ _ b.0) w k (not-true _ a.0) b.1

answered_told : (c : Client) → c.waiting ≡ true → c.asked ≡ false → is_answered c ≡ true → c ≡ answered c.rid c.resp
answered_told c w k t =
    let a = both_true _ _ t in
    let b = both_true _ _ a.1 in
    same_client refl (eqb-true _ _ b.0) refl w k b.1 (not-true _ a.0)

module _ (j count len idx : ℕ) (c : Client) (e : Elem) where
  waiting_told : c.waiting ≡ true → cond (held_from j len idx e) (eqb c.rid e.rid && is_gathered c) (cond c.asked (is_asking c) (is_answered c)) ≡ true
      → Stand c (FreeAt j len idx e) (HasAt j len idx e)
  waiting_told w t = on (held_from j len idx e)
      (λ b. let a = both_true _ _ (rw b at t) in
      is_held c.rid (gathered_told c w a.1) (rw (eqb-true c.rid e.rid a.0) (held_told j len idx e b)))
      (λ b. on c.asked
      (λ k. asks c.rid c.req (asking_told c w k (rw (b, k) at t)) (free_told j len idx e b))
      (λ k. is_told c.rid c.resp (answered_told c w k (rw (b, k) at t)) (free_told j len idx e b)))

  pub client_told : client_sound j count (held_from j len idx e) c e ≡ true → (count ≤ j → c ≡ zero_client) × Stand c (FreeAt j len idx e) (HasAt j len idx e)
  client_told t = on c.waiting
      (λ w. let a = both_true (not (leb count j)) _ (rw w at t) in
      (λ h. clash (cc (rw (le-leb count j h) at a.0)), waiting_told w a.1))
      (λ w. let a = both_true _ _ (rw w at t) in
      let z = resting_told c w a.1 in
      (λ h. z, rests z (free_told j len idx e (not-true _ a.0))))

  -- who waits is a client that is there
  inside : (count ≤ j → c ≡ zero_client) → c.waiting ≡ true → leb count j ≡ false
  inside u w = on (leb count j) (λ b. clash (cc (u (leb-true count j b)))) (λ b. b)

  told_client : (count ≤ j → c ≡ zero_client) → Stand c (FreeAt j len idx e) (HasAt j len idx e) → client_sound j count (held_from j len idx e) c e ≡ true
  told_client u (rests q f) = rw (q, told_free j len idx e f)
  told_client u (asks rid req q f) = rw (inside u (rw q), told_free j len idx e f, q)
  told_client u (is_held rid q g) =
      rw (inside u (rw q), told_held j len idx e rid g, q, g.2) (true_both (eq-eqb rid rid refl) refl)
  told_client u (is_told rid resp q f) = rw (inside u (rw q), told_free j len idx e f, q)

-- ---------- the whole state

module _ (s : State) where
  module _ (whole : length s.clients ≡ limit.clients) (whole' : length s.elems ≡ limit.clients) (t : sound s ≡ true) where
    halves : (combiner_sound s.count s.len s.idx s.responding ≡ true) × (every (place_sound s) 0 s.clients ≡ true)
    halves = both_true (combiner_sound s.count s.len s.idx s.responding) (every (place_sound s) 0 s.clients) t

    -- a place behind the rows is all zeros
    place_told : (j : ℕ) → place_sound_at j s.count s.len s.idx (client s j) (elem s j) ≡ true
    place_told j = on (ltb j limit.clients)
        (λ b. every_at (place_sound s) zero_client s.clients halves.1 j (rw whole (ltb-true j limit.clients b)))
        (λ b. let h = ltb-false j limit.clients b in
        rw (get_or-eq_default s.clients zero_client {n = j} (rw whole h), get_or-eq_default s.elems zero_elem {n = j} (rw whole' h)))

    elem_at : (j : ℕ) → (s.len ≤ j → elem s j ≡ zero_elem) × ((elem s j).present ≡ false → (elem s j).rid ≡ 0)
    elem_at j = elem_told j s.len (elem s j) (both_true _ _ (place_told j)).0

    client_at_lem : (j : ℕ) → (s.count ≤ j → client s j ≡ zero_client) × Stand (client s j) (FreeAt j s.len s.idx (elem s j)) (HasAt j s.len s.idx (elem s j))
    client_at_lem j = client_told j s.count s.len s.idx (client s j) (elem s j) (both_true (elem_sound j s.len (elem s j)) _ (place_told j)).1

    pub sound_stages : Stages s
    sound_stages =
        let m = combiner_told s.count s.len s.idx s.responding halves.0 in
        record {
          rows = record {
            few = m.0;
            clients = record { whole = whole; unused = λ j. (client_at_lem j).0 };
            elems = record { whole = whole'; unused = λ j. (elem_at j).0; no_id = λ j. (elem_at j).1 };
          };
          mode = m.1;
          stand = λ j. (client_at_lem j).1;
        }

  pub stages_sound : Stages s → sound s ≡ true
  stages_sound i =
      let r = i.rows in
      true_both (told_combiner s.count s.len s.idx s.responding r.few i.mode)
      (every_all (place_sound s) zero_client s.clients (λ j h. true_both
      (told_elem j s.len (elem s j) (r.elems.unused j) (r.elems.no_id j))
      (told_client j s.count s.len s.idx (client s j) (elem s j) (r.clients.unused j) (i.stand j))))
