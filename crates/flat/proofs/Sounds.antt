-- The test of a state says what soundness means: the source's invariants, the limits, unused entries zero. Both say the stages, and a fresh machine has
-- them. Assumes nothing.
use Prim.Native.Nat.{ℕ, ◌≤◌, ◌<◌}
use mathlib.Core.Path.{◌≡◌, refl, ap}
use mathlib.Core.Bool.{Bool, true, false}
use mathlib.Core.Logic.{◌⊎◌, inl, inr}
use mathlib.Core.Option.{some}
use native.Mathlib.Omega.{arith}
use lib.Dec.{ltb}
use lib.ListN.{length}
use borrow.Author.Tests.{ltb-true, lt-ltb, ltb-false, le-ltb}
use Rattle.rows.proofs.Cases.{on}
use Rattle.rows.proofs.Rows.{get_d_replicate}
use Rattle.schedule.specs.Limits as limit
use Rattle.flat.specs.Source as source
use Rattle.flat.specs.Invariants.{Invariants, holds_rid, request_stored, response_stored, combiner_has}
use Rattle.flat.specs.Flat.{zero_client, fresh_state, client}
use Rattle.flat.specs.Sound.{sound}
use Rattle.flat.specs.Refined.{client_of, combiner_of, abs, Sound}
use Rattle.flat.specs.declared.state.Client.{Client}
use Rattle.flat.specs.declared.state.State.{State}
use Rattle.flat.proofs.Stages.{Has, rests, Mode, collects, Stages, collecting, gathered_few, gathered_room, waits_inside}
use Rattle.flat.proofs.Tests.{sound_stages, stages_sound}
use Rattle.flat.proofs.Flags.{Flags, has_free, has_one, free_none, stand_flags, stand_zeros, flags_stand}
use Rattle.flat.proofs.Values.{given_some, given_none, of_idle, of_waits}
use Rattle.flat.proofs.Maps.{same_machine}
use Rattle.flat.proofs.Unused.{fresh_clients, fresh_elems}
use Rattle.flat.proofs.Elems.{holds_has, has_holds, mode_sized, sized_mode}

-- ---------- from the stages to the source's invariants

module _ (s : State) (i : Stages s) where
  flags_at : (j : ℕ) → Flags (client s j) (Has s j)
  flags_at j = stand_flags has_free has_one (i.stand j)

  stored_at : (j : ℕ) → j < s.count → ((client s j).asked ≡ true) ⊎ ((client s j).told ≡ true) ⊎ ((rid : ℕ) × Has s j rid)
      → request_stored (abs s) j ⊎ response_stored (abs s) j ⊎ combiner_has (abs s) j
  stored_at j h (inl a) = inl (record { rid = (client s j).rid; req = (client s j).req }, rw a)
  stored_at j h (inr (inl t)) = inr (inl (record { rid = (client s j).rid; resp = (client s j).resp }, rw t))
  stored_at j h (inr (inr g)) = inr (inr (h, (g.0, has_holds s (gathered_room s i) j g.0 i.mode g.1)))

  waits_told : (j rid : ℕ) → (abs s).clients j ≡ some (source.Waiting rid) → (client s j).waiting ≡ true
  waits_told j rid q = (of_waits (client s j) rid (given_some (ltb j s.count) _ _ q).1).0

  -- where client j waits with this id and has its slot so
  at_client : (j rid : ℕ) (b : Bool) → ((client s j).waiting ≡ true) × ((client s j).rid ≡ rid) × ((client s j).slot ≡ b)
      → (j < s.count) × ((abs s).clients j ≡ some (source.Waiting rid)) × ((abs s).slots j ≡ some b)
  at_client j rid b k =
      let h = waits_inside s i.rows.clients.unused j k.0 in
      (h, rw (lt-ltb j s.count h, k.0, k.1), rw (lt-ltb j s.count h, k.2))

  stages_inv : Invariants (abs s)
  stages_inv =
      record {
        clients = record { inside = λ j h. (client_of (client s j), rw (lt-ltb j s.count h)); outside = λ j h. rw (le-ltb j s.count h) };
        slots = record { inside = λ j h. ((client s j).slot, rw (lt-ltb j s.count h)); outside = λ j h. rw (le-ltb j s.count h) };
        size = mode_sized s (gathered_room s i) i.mode;
        idle = λ j h q. rw (lt-ltb j s.count h, (flags_at j).idle (of_idle (client s j) (given_some (ltb j s.count) _ _ q).1));
        waiting = λ j h. stored_at j h.0 ((flags_at j).waits (waits_told j h.1.0 h.1.1));
        requests = λ j q e.
            let g = given_some (client s j).asked _ _ e in
            let k = (flags_at j).stores g.0 in
            at_client j q.rid true (k.0, ap (λ (x : source.Request). x.rid) g.1, k.1);
        responses = λ j p e.
            let g = given_some (client s j).told _ _ e in
            let k = (flags_at j).tells g.0 in
            at_client j p.rid false (k.0, ap (λ (x : source.Response). x.rid) g.1, k.1);
        combiner = λ j rid h q.
            let k = (flags_at j).has rid (holds_has s (gathered_room s i) j rid i.mode q) in
            let a = at_client j rid true (k.0, k.1, k.2) in
            (a.1, a.2, rw k.3);
      }

  pub stages_mean : Sound s
  stages_mean =
      record {
        inv = stages_inv;
        whole_clients = i.rows.clients.whole;
        whole_elems = i.rows.elems.whole;
        few = i.rows.few;
        few_gathered = omega (arith, gathered_few i.mode, i.rows.few);
        unused_clients = i.rows.clients.unused;
        unused_rid = λ j. (stand_zeros (i.stand j)).no_rid;
        unused_req = λ j. (stand_zeros (i.stand j)).no_req;
        unused_resp = λ j. (stand_zeros (i.stand j)).no_resp;
        unused_cursor = λ e. (collecting i.mode e).0;
        unused_elems = i.rows.elems.unused;
        unused_ids = i.rows.elems.no_id;
      }

-- ---------- and from them to the stages

module _ (s : State) (h : Sound s) where
  room : s.len ≤ length s.elems
  room = rw h.whole_elems h.few_gathered

  mode_told : Mode s.responding s.idx s.len s.count s.idx
  mode_told = sized_mode s room s.count h.unused_cursor h.inv.size

  holds_at : (j rid : ℕ) → Has s j rid → (j < s.count) × holds_rid (combiner_of s) j rid
  holds_at j rid g = (omega (arith, g.1, gathered_few mode_told), has_holds s room j rid mode_told g)

  -- what the source says of a client, read back
  client_back : (j rid : ℕ) (b : Bool) → ((abs s).clients j ≡ some (source.Waiting rid)) → ((abs s).slots j ≡ some b)
      → ((client s j).waiting ≡ true) × ((client s j).rid ≡ rid) × ((client s j).slot ≡ b)
  client_back j rid b p q = let k = of_waits (client s j) rid (given_some (ltb j s.count) _ _ p).1 in (k.0, k.1, (given_some (ltb j s.count) _ _ q).1)

  idle_back : (j : ℕ) → (client s j).waiting ≡ false → (client s j).slot ≡ false
  idle_back j w = on (ltb j s.count)
      (λ b. (given_some (ltb j s.count) _ _ (h.inv.idle j (ltb-true j s.count b) (rw (b, w)))).1)
      (λ b. ap (λ (c : Client). c.slot) (h.unused_clients j (ltb-false j s.count b)))

  stored_back : (j : ℕ) → request_stored (abs s) j ⊎ response_stored (abs s) j ⊎ combiner_has (abs s) j
      → ((client s j).asked ≡ true) ⊎ ((client s j).told ≡ true) ⊎ ((rid : ℕ) × Has s j rid)
  stored_back j (inl a) = inl (given_some (client s j).asked _ _ a.1).0
  stored_back j (inr (inl t)) = inr (inl (given_some (client s j).told _ _ t.1).0)
  stored_back j (inr (inr g)) = inr (inr (g.1.0, holds_has s room j g.1.0 mode_told g.1.1))

  waits_back : (j : ℕ) → (client s j).waiting ≡ true → ((client s j).asked ≡ true) ⊎ ((client s j).told ≡ true) ⊎ ((rid : ℕ) × Has s j rid)
  waits_back j w =
      let b = waits_inside s h.unused_clients j w in
      stored_back j (h.inv.waiting j (b, ((client s j).rid, rw (lt-ltb j s.count b, w))))

  flags_back : (j : ℕ) → Flags (client s j) (Has s j)
  flags_back j =
      record {
        idle = idle_back j;
        waits = waits_back j;
        stores = λ a.
            let k = h.inv.requests j (record { rid = (client s j).rid; req = (client s j).req }) (rw a) in
            let b = client_back j (client s j).rid true k.1 k.2 in
            (b.0, b.2);
        tells = λ t.
            let k = h.inv.responses j (record { rid = (client s j).rid; resp = (client s j).resp }) (rw t) in
            let b = client_back j (client s j).rid false k.1 k.2 in
            (b.0, b.2);
        has = λ rid g.
            let u = holds_at j rid g in
            let k = h.inv.combiner j rid u.0 u.1 in
            let b = client_back j rid true k.0 k.1 in
            (b.0, b.1, b.2, given_none (client s j).asked _ k.2);
      }

  pub means_stages : Stages s
  means_stages =
      record {
        rows = record {
          few = h.few;
          clients = record { whole = h.whole_clients; unused = h.unused_clients };
          elems = record { whole = h.whole_elems; unused = h.unused_elems; no_id = h.unused_ids };
        };
        mode = mode_told;
        stand = λ j.
            flags_stand (flags_back j) (record { no_rid = h.unused_rid j; no_req = h.unused_req j; no_resp = h.unused_resp j }) free_none;
      }

-- ---------- the test is the record

pub sound_means : (s : State) → length s.clients ≡ limit.clients → length s.elems ≡ limit.clients → sound s ≡ true → Sound s
sound_means s a b t = stages_mean s (sound_stages s a b t)

pub means_sound : (s : State) → Sound s → sound s ≡ true
means_sound s h = stages_sound s (means_stages s h)

-- ---------- the fresh machine

-- every client of it is idle
pub fresh_initialize : (n : ℕ) → abs (fresh_state n) ≡ source.initialize n
fresh_initialize n = same_machine refl (λ i. rw (idle i)) (λ i. rw (idle i)) refl (λ i. rw (idle i)) (λ i. rw (idle i))
  where
    idle : (i : ℕ) → client (fresh_state n) i ≡ zero_client
    idle i = get_d_replicate limit.clients i zero_client

module _ (n : ℕ) (b : n ≤ limit.clients) where
  pub fresh_stages : Stages (fresh_state n)
  fresh_stages =
      record {
        rows = record { few = b; clients = fresh_clients n; elems = fresh_elems };
        mode = collects refl refl (omega arith);
        stand = λ j. rests (get_d_replicate limit.clients j zero_client) (λ x y. absurd (omega arith));
      }

  pub fresh_means : Sound (fresh_state n)
  fresh_means = stages_mean (fresh_state n) fresh_stages

  pub fresh_sound : sound (fresh_state n) ≡ true
  fresh_sound = stages_sound (fresh_state n) fresh_stages
