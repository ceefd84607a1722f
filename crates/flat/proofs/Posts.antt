-- What an accepted step does in the source: where it leads, to no other state, and what it hands out, nothing else. Assumes nothing.
use Prim.Native.Nat.{ℕ, ◌<◌}
use mathlib.Core.Path.{◌≡◌, refl, sym, ap, ◌∙◌}
use mathlib.Core.Bool.{Bool, true, false}
use mathlib.Core.List.{List, ◌∷◌, [], ◌++◌}
use mathlib.Core.Option.{Option, some}
use native.Mathlib.Omega.{arith}
use lib.Dec.{ltb}
use lib.ListN.{length}
use borrow.Author.Tests.{ltb-true, eqb-true, not-true}
use Rattle.rows.proofs.Cases.{clash}
use Rattle.machine.specs.Map.{without}
use Rattle.machine.specs.Machine.{Accepted}
use Rattle.machine.proofs.Known.{one_held}
use Rattle.schedule.specs.declared.steps.FlatStep.{FlatStep}
use Rattle.schedule.specs.declared.steps.FlatStep.TheVariants.{ClientSend, ClientRecv, CombinerRecv, CombinerSkip, CombinerGoToResponding}
use Rattle.schedule.specs.declared.steps.FlatStep.TheVariants.{CombinerSend, CombinerSendSkip, CombinerGoToCollecting}
use Rattle.flat.specs.Source as source
use Rattle.flat.specs.Source.{FlatCombiner, Transition, Collecting, Responding, Moves, Safe}
use Rattle.flat.specs.Flat.{flat, client, elem, sending, receiving, gathering, keeping, answering, next, logs}
use Rattle.flat.specs.Refined.{given, client_of, gathered, abs, label, Sound, HandsOut}
use Rattle.flat.specs.declared.state.Client.{Client}
use Rattle.flat.specs.declared.state.Elem.{Elem}
use Rattle.flat.specs.declared.state.State.{State}
use Rattle.flat.specs.declared.entry.Entry.{Entry}
use Rattle.flat.proofs.Stages.{held, Stages, responding, gathered_room}
use Rattle.flat.proofs.Unused.{in_clients, in_elems}
use Rattle.flat.proofs.Values.{given_some}
use Rattle.flat.proofs.Flags.{idle_rests, clear_told, had_held}
use Rattle.flat.proofs.Elems.{gathered_more, gathered_length, gathered_at}
use Rattle.flat.proofs.Sounds.{means_stages}
use Rattle.flat.proofs.Maps.{same_machine, map_put, map_same}

-- ---------- the maps as read off a client

abbrev client_at : State → ℕ → Client → Option source.Client
client_at s i c = given (ltb i s.count) (client_of c)

abbrev slot_at : State → ℕ → Client → Option Bool
slot_at s i c = given (ltb i s.count) c.slot

abbrev request_of : ℕ → Client → Option source.Request
request_of i c = given c.asked (record { rid = c.rid; req = c.req })

abbrev response_of : ℕ → Client → Option source.Response
response_of i c = given c.told (record { rid = c.rid; resp = c.resp })

module _ (s : State) (i : Stages s) where
  -- ---------- what a step finds that passes its tests

  -- client_recv its client's response, and no request
  finds_response : (j : ℕ) → Accepted flat s (ClientRecv j) → ((client s j).asked ≡ false) × ((client s j).told ≡ true)
  finds_response j p = clear_told (i.stand j) p.1.0 (not-true (client s j).slot p.1.1.0)

  -- while it responds the combiner has gathered all, so that the cursor's element is a gathered one
  cursor_gathered : s.responding ≡ true → ltb s.idx s.count ≡ true → s.idx < s.len
  cursor_gathered o b = omega (arith, ltb-true s.idx s.count b, (responding i.mode o).0)

  -- combiner_send a client that was gathered with the step's id: the cursor's client is not answered yet
  finds_held : (rid resp : ℕ) → Accepted flat s (CombinerSend rid resp) → client s s.idx ≡ held rid
  finds_held rid resp p =
      let k = s.idx in
      let b = cursor_gathered p.0 p.1.0 in
      let h = had_held (i.stand k) (λ f. clash (cc (f (omega arith) b, p.1.1.0))) in
      let u : h.0 ≡ rid = sym (eqb-true rid (elem s k).rid p.1.1.1.0 ∙ ap (λ (e : Elem). e.rid) h.2.2) in
      rw (← u) h.1

  -- ---------- the clients' transitions

  client_send : (j rid req : ℕ) → Accepted flat s (ClientSend j rid req) → Moves (abs s) (label (ClientSend j rid req)) (abs (next s (ClientSend j rid req)))
  client_send j rid req p =
      let b = in_clients s i.rows j p.0 in
      let w = not-true (client s j).waiting p.1.0 in
      record {
        require = ltb-true j s.count p.0;
        removes_client = rw (p.0, w);
        cur_slot = (client s j).slot;
        removes_slot = rw p.0;
        update = same_machine refl
            (map_put (client_at s) s.clients j _ b _ (rw p.0))
            (map_put (slot_at s) s.clients j _ b _ (rw p.0))
            refl
            (map_put request_of s.clients j _ b _ refl)
            (map_same response_of s.clients j (sending (client s j) rid req) b (rw (idle_rests (i.stand j) w).1));
      }

  client_recv : (j : ℕ) → Accepted flat s (ClientRecv j) → Moves (abs s) (label (ClientRecv j)) (abs (next s (ClientRecv j)))
  client_recv j p =
      let b = in_clients s i.rows j p.0 in
      let t = not-true (client s j).slot p.1.1.0 in
      record {
        require = ltb-true j s.count p.0;
        rid = (client s j).rid;
        removes = rw (p.0, p.1.0);
        have = rw (p.0, t);
        update = same_machine refl
            (map_put (client_at s) s.clients j _ b _ (rw p.0))
            (map_same (slot_at s) s.clients j (receiving (client s j)) b refl)
            refl
            (map_same request_of s.clients j (receiving (client s j)) b (rw (finds_response j p).0))
            (map_put response_of s.clients j _ b _ refl);
      }

  -- ---------- the combiner's

  combiner_recv : Accepted flat s CombinerRecv → Moves (abs s) (label CombinerRecv) (abs (next s CombinerRecv))
  combiner_recv p =
      let k = s.len in
      let c = client s k in
      let o = not-true s.responding p.0 in
      let l = gathered_length s (gathered_room s i) in
      let b = in_clients s i.rows k p.1.0 in
      record {
        elems = gathered s;
        require = rw o;
        require_left = rw l (ltb-true k s.count p.1.0);
        have = rw (l, p.1.0, p.1.1.0);
        request = record { rid = c.rid; req = c.req };
        withdraws = λ q e. (given_some c.asked _ _ (rw l at e)).1;
        update = same_machine refl
            (map_same (client_at s) s.clients k (gathering c) b refl)
            (map_same (slot_at s) s.clients k (gathering c) b refl)
            (rw o (ap source.Collecting (gathered_more s.elems k (keeping c) (in_elems s i.rows k p.1.0))))
            (λ j. rw l (map_put request_of s.clients k _ b _ refl j))
            (map_same response_of s.clients k (gathering c) b refl);
      }

  combiner_skip : Accepted flat s CombinerSkip → Moves (abs s) (label CombinerSkip) (abs (next s CombinerSkip))
  combiner_skip p =
      let k = s.len in
      let o = not-true s.responding p.0 in
      record {
        elems = gathered s;
        require = rw o;
        require_left = rw (gathered_length s (gathered_room s i)) (ltb-true k s.count p.1.0);
        update = same_machine refl (λ j. refl) (λ j. refl)
            (rw o (ap source.Collecting (gathered_more s.elems k _ (in_elems s i.rows k p.1.0))))
            (λ j. refl) (λ j. refl);
      }

  go_to_responding : Accepted flat s CombinerGoToResponding → Moves (abs s) (label CombinerGoToResponding) (abs (next s CombinerGoToResponding))
  go_to_responding p =
      record {
        elems = gathered s;
        require = rw (not-true s.responding p.0);
        require_full = gathered_length s (gathered_room s i) ∙ eqb-true s.len s.count p.1.0;
        update = refl;
      }

  combiner_send : (rid resp : ℕ) → Accepted flat s (CombinerSend rid resp)
      → Moves (abs s) (label (CombinerSend rid resp)) (abs (next s (CombinerSend rid resp)))
  combiner_send rid resp p =
      let k = s.idx in
      let c = client s k in
      let q = eqb-true rid (elem s k).rid p.1.1.1.0 in
      let b = in_clients s i.rows k p.1.0 in
      record {
        elems = gathered s;
        j = k;
        require = rw p.0;
        require_left = ltb-true k s.count p.1.0;
        require_rid = gathered_at s (gathered_room s i) k (cursor_gathered p.0 p.1.0) ∙ rw (p.1.1.0, q);
        cur_slot = c.slot;
        removes_slot = rw p.1.0;
        update = same_machine refl
            (map_same (client_at s) s.clients k (answering c resp) b refl)
            (map_put (slot_at s) s.clients k _ b _ (rw p.1.0))
            (rw p.0)
            (map_same request_of s.clients k (answering c resp) b refl)
            (map_put response_of s.clients k _ b _ (rw (finds_held rid resp p)));
      }

  combiner_send_skip : Accepted flat s CombinerSendSkip → Moves (abs s) (label CombinerSendSkip) (abs (next s CombinerSendSkip))
  combiner_send_skip p =
      let k = s.idx in
      record {
        elems = gathered s;
        j = k;
        require = rw p.0;
        require_left = ltb-true k s.count p.1.0;
        require_none = gathered_at s (gathered_room s i) k (cursor_gathered p.0 p.1.0) ∙ rw (not-true (elem s k).present p.1.1.0);
        update = same_machine refl (λ j. refl) (λ j. refl) (rw p.0) (λ j. refl) (λ j. refl);
      }

  go_to_collecting : Accepted flat s CombinerGoToCollecting → Moves (abs s) (label CombinerGoToCollecting) (abs (next s CombinerGoToCollecting))
  go_to_collecting p = record { elems = gathered s; require = rw (p.0, eqb-true s.idx s.count p.1.0); update = refl }

  moves : (x : FlatStep) → Accepted flat s x → Moves (abs s) (label x) (abs (next s x))
  moves (ClientSend j rid req) p = client_send j rid req p
  moves (ClientRecv j) p = client_recv j p
  moves CombinerRecv p = combiner_recv p
  moves CombinerSkip p = combiner_skip p
  moves CombinerGoToResponding p = go_to_responding p
  moves (CombinerSend rid resp) p = combiner_send rid resp p
  moves CombinerSendSkip p = combiner_send_skip p
  moves CombinerGoToCollecting p = go_to_collecting p

-- ---------- of a sound state

module _ (s : State) (x : FlatStep) (h : Sound s) (a : Accepted flat s x) where
  pub accepted_moves : Moves (abs s) (label x) (abs (next s x))
  accepted_moves = moves s (means_stages s h) x a

-- ---------- a transition that is safe has one state after it

collecting_one : (m : FlatCombiner) (es fs : List (Option ℕ)) → m.combiner ≡ Collecting es → m.combiner ≡ Collecting fs → es ≡ fs
collecting_one m es fs p q = cc

responding_one : (m : FlatCombiner) (es fs : List (Option ℕ)) (i j : ℕ) → m.combiner ≡ Responding es i → m.combiner ≡ Responding fs j → (es ≡ fs) × (i ≡ j)
responding_one m es fs i j p q = (cc, cc)

recv_one : (m p : FlatCombiner) (t : Safe m source.combiner_recv) → source.CombinerRecv m p
    → p ≡ source.with_parts m m.clients m.slots (Collecting (t.0 ++ (some t.1.rid ∷ []))) (without (length t.0) m.requests) m.responses
recv_one m p t v =
    let e = collecting_one m v.elems t.0 v.require t.2 in
    let r = v.withdraws t.1 (rw e t.3) in
    rw (v.update, e, r)

pub moves_one : (l : Transition) (m p q : FlatCombiner) → Safe m l → Moves m l p → Moves m l q → p ≡ q
moves_one (source.client_send j request) m p q t v w = v.update ∙ sym w.update
moves_one (source.client_recv j) m p q t v w = v.update ∙ sym w.update
moves_one source.combiner_recv m p q t v w = recv_one m p t v ∙ sym (recv_one m q t w)
moves_one source.combiner_skip m p q t v w = rw (v.update, w.update, collecting_one m v.elems w.elems v.require w.require)
moves_one source.combiner_go_to_responding m p q t v w = rw (v.update, w.update, collecting_one m v.elems w.elems v.require w.require)
moves_one (source.combiner_send response) m p q t v w =
    let e = responding_one m v.elems w.elems v.j w.j v.require w.require in
    rw (v.update, w.update, e.0, e.1)
moves_one source.combiner_send_skip m p q t v w =
    let e = responding_one m v.elems w.elems v.j w.j v.require w.require in
    rw (v.update, w.update, e.0, e.1)
moves_one source.combiner_go_to_collecting m p q t v w = v.update ∙ sym w.update

-- ---------- the log is what the source hands out

pub accepted_logs : (s : State) (x : FlatStep) → Sound s → Accepted flat s x → HandsOut (abs s) (label x) (logs s x)
accepted_logs s (ClientSend j rid req) h a = refl
accepted_logs s (ClientRecv j) h a =
    let c = client s j in
    (record { rid = c.rid; resp = c.resp }, rw (finds_response s (means_stages s h) j a).1, refl)
accepted_logs s CombinerRecv h a = refl
accepted_logs s CombinerSkip h a = refl
accepted_logs s CombinerGoToResponding h a = refl
accepted_logs s (CombinerSend rid resp) h a = refl
accepted_logs s CombinerSendSkip h a = refl
accepted_logs s CombinerGoToCollecting h a = refl

-- and it hands out nothing else
pub hands_one : (y : Transition) (m : FlatCombiner) (es fs : List Entry) → HandsOut m y es → HandsOut m y fs → es ≡ fs
hands_one (source.client_send j request) m es fs p q = p ∙ sym q
hands_one (source.client_recv j) m es fs p q = rw (p.2, q.2, one_held p.1 q.1)
hands_one source.combiner_recv m es fs p q = p ∙ sym q
hands_one source.combiner_skip m es fs p q = p ∙ sym q
hands_one source.combiner_go_to_responding m es fs p q = p ∙ sym q
hands_one (source.combiner_send response) m es fs p q = p ∙ sym q
hands_one source.combiner_send_skip m es fs p q = p ∙ sym q
hands_one source.combiner_go_to_collecting m es fs p q = p ∙ sym q
