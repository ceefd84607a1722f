-- The source's own proofs: `initialize` has the eight invariants, each transition keeps them, and under them deposits and withdrawals are safe. So the
-- transcription is tried by itself, apart from the machine. Assumes nothing.
use Prim.Native.Nat.{ℕ, ◌<◌}
use mathlib.Core.Path.{◌≡◌, refl, sym, ap, ◌∙◌}
use mathlib.Core.Bool.{true, false}
use mathlib.Core.Logic.{◌⊎◌, inl, inr}
use mathlib.Core.List.{List, [], ◌∷◌, ◌++◌}
use mathlib.Core.Option.{Option, none, some}
use native.Mathlib.Omega.{arith}
use lib.Dec.{eqb}
use lib.ListN.{length}
use borrow.Author.Tests.{eqb-true, eqb-false, eq-eqb, ne_eqb, lt-ltb, le-ltb}
use Rattle.rows.proofs.Cases.{on, clash}
use Rattle.machine.specs.Map.{without}
use Rattle.flat.specs.Source as source
use Rattle.flat.specs.Source.{Request, Response, Idle, Waiting, Combiner, Collecting, FlatCombiner, initialize, Transition, Moves, Safe}
use Rattle.flat.specs.Invariants.{client_waiting, holds_rid, combiner_has, request_stored, response_stored, sized, Invariants}
use Rattle.flat.proofs.Upheld.{put_inside, put_outside, no_value, stay, more_length, stood, newest, older, has_response, has_request}

module _ (pre : FlatCombiner) (i : Invariants pre) where
  -- ---------- the clients' transitions

  module _ (post : FlatCombiner) (j : ℕ) where
    -- an idle client has nothing stored, and the combiner nothing of it
    client_send_inductive : (request : Request) → source.ClientSend pre j request post → Invariants post
    client_send_inductive request v =
        rw v.update
        (record {
          clients = record { inside = put_inside _ _ j _ i.clients.inside; outside = put_outside _ _ j _ v.require i.clients.outside };
          slots = record { inside = put_inside _ _ j _ i.slots.inside; outside = put_outside _ _ j _ v.require i.slots.outside };
          size = i.size;
          idle = λ k h e. on (eqb k j) (λ b. clash (cc (rw b at e))) (λ b. rw b (i.idle k h (rw b at e)));
          waiting = λ k h. on (eqb k j)
              (λ b. inl (request, rw b))
              (λ b. stay (λ q. (q.0, rw b q.1)) (λ p. p) (λ g. g) (i.waiting k (h.0, (h.1.0, rw b at h.1.1))));
          requests = λ k q e. on (eqb k j)
              (λ b.
              let same : some request ≡ some q = rw b at e in
              let one : request ≡ q = cc in
              (omega (arith, eqb-true k j b, v.require), rw (b, one), rw b))
              (λ b. let u = i.requests k q (rw b at e) in (u.0, rw b u.1, rw b u.2));
          responses = λ k p e. let u = i.responses k p e in on (eqb k j)
              (λ b. clash (cc (rw (eqb-true k j b) at u.1, v.removes_client)))
              (λ b. (u.0, rw b u.1, rw b u.2));
          combiner = λ k rid h g. let u = i.combiner k rid h g in on (eqb k j)
              (λ b. clash (cc (rw (eqb-true k j b) at u.0, v.removes_client)))
              (λ b. (rw b u.0, rw b u.1, rw b u.2));
        })

    -- a client with its slot clear has no request stored, and the combiner nothing of it
    client_recv_inductive : source.ClientRecv pre j post → Invariants post
    client_recv_inductive v =
        rw v.update
        (record {
          clients = record { inside = put_inside _ _ j _ i.clients.inside; outside = put_outside _ _ j _ v.require i.clients.outside };
          slots = record { inside = i.slots.inside; outside = i.slots.outside };
          size = i.size;
          idle = λ k h e. on (eqb k j) (λ b. rw (eqb-true k j b) v.have) (λ b. i.idle k h (rw b at e));
          waiting = λ k h. on (eqb k j)
              (λ b. clash (cc (rw b at h.1.1)))
              (λ b. stay (λ q. q) (λ p. (p.0, rw b p.1)) (λ g. g) (i.waiting k (h.0, (h.1.0, rw b at h.1.1))));
          requests = λ k q e. let u = i.requests k q e in on (eqb k j)
              (λ b. clash (cc (rw (eqb-true k j b) at u.2, v.have)))
              (λ b. (u.0, rw b u.1, u.2));
          responses = λ k p e. on (eqb k j)
              (λ b. clash (cc (rw b at e)))
              (λ b. let u = i.responses k p (rw b at e) in (u.0, rw b u.1, u.2));
          combiner = λ k rid h g. let u = i.combiner k rid h g in on (eqb k j)
              (λ b. clash (cc (rw (eqb-true k j b) at u.1, v.have)))
              (λ b. (rw b u.0, u.1, u.2));
        })

  -- ---------- the combiner gathers

  -- the request at the cursor, which is the one that it withdraws, so that the id that it keeps is the client's
  module _ (es : List (Option ℕ)) (c : pre.combiner ≡ Collecting es) (request stored : Request) (e : pre.requests (length es) ≡ some stored)
      (own : request ≡ stored) where
    abbrev x : Option ℕ
    x = some request.rid

    abbrev gathered : FlatCombiner
    gathered = source.with_parts pre pre.clients pre.slots (Collecting (es ++ (x ∷ []))) (without (length es) pre.requests) pre.responses

    now_waits : (k : ℕ) → client_waiting pre k → request_stored pre k ⊎ response_stored pre k ⊎ combiner_has pre k
        → request_stored gathered k ⊎ response_stored gathered k ⊎ combiner_has gathered k
    now_waits k h (inl q) = on (eqb k (length es))
        (λ b. inr (inr (h.0, (request.rid, rw (eqb-true k (length es) b) (newest es x request.rid refl)))))
        (λ b. inl (q.0, rw b q.1))
    now_waits k h (inr (inl p)) = inr (inl p)
    now_waits k h (inr (inr g)) = inr (inr (g.0, (g.1.0, stood es x k g.1.0 (rw c at g.1.1))))

    now_has : (k rid : ℕ) → k < pre.num_clients → holds_rid (Collecting es) k rid ⊎ ((k ≡ length es) × (x ≡ some rid))
        → (pre.clients k ≡ some (Waiting rid)) × (pre.slots k ≡ some true) × (without (length es) pre.requests k ≡ none)
    now_has k rid h (inl g) =
        let u = i.combiner k rid h (rw c g) in
        (u.0, u.1, rw (ne_eqb k (length es) (λ q. omega (arith, g.0))) u.2)
    now_has k rid h (inr q) =
        let u = i.requests (length es) stored e in
        let id : request.rid ≡ rid = cc q.1 in
        let one : stored.rid ≡ rid = ap (λ (r : Request). r.rid) (sym own) ∙ id in
        (rw q.0 (rw one at u.1), rw q.0 u.2, rw (q.0, eq-eqb (length es) (length es) refl))

  combiner_recv_inductive : (post : FlatCombiner) → source.CombinerRecv pre post → Invariants post
  combiner_recv_inductive post v =
      let es = v.elems in
      let q = has_request pre i es v.require v.require_left v.have in
      let own = v.withdraws q.0 q.1 in
      let id = some v.request.rid in
      rw v.update
      (record {
        clients = record { inside = i.clients.inside; outside = i.clients.outside };
        slots = record { inside = i.slots.inside; outside = i.slots.outside };
        size = omega (arith, more_length es id, v.require_left);
        idle = i.idle;
        waiting = λ k h. now_waits es v.require v.request q.0 q.1 own k h (i.waiting k h);
        requests = λ k r e. on (eqb k (length es)) (λ b. clash (cc (rw b at e))) (λ b. i.requests k r (rw b at e));
        responses = i.responses;
        combiner = λ k rid h g. now_has es v.require v.request q.0 q.1 own k rid h (older es id k rid g);
      })

  -- ---------- the combiner answers: the cursor's client waits with that id, its slot is set and no request is stored

  combiner_send_inductive : (post : FlatCombiner) (response : Response) → source.CombinerSend pre response post → Invariants post
  combiner_send_inductive post response v =
      let j = v.j in
      let c = i.combiner j response.rid v.require_left (rw v.require (omega arith, v.require_rid)) in
      rw v.update
      (record {
        clients = record { inside = i.clients.inside; outside = i.clients.outside };
        slots = record { inside = put_inside _ _ j _ i.slots.inside; outside = put_outside _ _ j _ v.require_left i.slots.outside };
        size = ((rw v.require at i.size).0, omega (arith, v.require_left));
        idle = λ k h e. on (eqb k j) (λ b. rw b) (λ b. rw b (i.idle k h e));
        waiting = λ k h. on (eqb k j)
            (λ b. inr (inl (response, rw b)))
            (λ b. stay (λ q. q) (λ p. (p.0, rw b p.1))
            (λ g. let u = rw v.require at g.1.1 in (g.0, (g.1.0, (omega (arith, u.0, eqb-false k j b), u.1))))
            (i.waiting k h));
        requests = λ k q e. let u = i.requests k q e in on (eqb k j)
            (λ b. clash (cc (rw (eqb-true k j b) at e, c.2)))
            (λ b. (u.0, u.1, rw b u.2));
        responses = λ k p e. on (eqb k j)
            (λ b.
            let same : some response ≡ some p = rw b at e in
            let one : response ≡ p = cc in
            (omega (arith, eqb-true k j b, v.require_left), rw (eqb-true k j b) (rw one at c.0), rw b))
            (λ b. let u = i.responses k p (rw b at e) in (u.0, u.1, rw b u.2));
        combiner = λ k rid h g.
            let u = i.combiner k rid h (rw v.require (omega (arith, g.0), g.1)) in
            (u.0, rw (ne_eqb k j (λ e. omega (arith, g.0))) u.1, u.2);
      })

  -- ---------- the combiner moves on, and has the ids that it had

  moved_on : (c : Combiner) → sized c pre.num_clients → ((k rid : ℕ) → k < pre.num_clients → holds_rid pre.combiner k rid → holds_rid c k rid)
      → ((k rid : ℕ) → k < pre.num_clients → holds_rid c k rid → holds_rid pre.combiner k rid)
      → Invariants (source.with_parts pre pre.clients pre.slots c pre.requests pre.responses)
  moved_on c s had has =
      record {
        clients = record { inside = i.clients.inside; outside = i.clients.outside };
        slots = record { inside = i.slots.inside; outside = i.slots.outside };
        size = s;
        idle = i.idle;
        waiting = λ k h. stay (λ q. q) (λ p. p) (λ g. (g.0, (g.1.0, had k g.1.0 g.0 g.1.1))) (i.waiting k h);
        requests = i.requests;
        responses = i.responses;
        combiner = λ k rid h g. i.combiner k rid h (has k rid h g);
      }

  module _ (post : FlatCombiner) where
    combiner_skip_inductive : source.CombinerSkip pre post → Invariants post
    combiner_skip_inductive v =
        rw v.update
        (moved_on _ (omega (arith, more_length v.elems none, v.require_left))
        (λ k rid h g. stood v.elems none k rid (rw v.require at g))
        (λ k rid h g. rw v.require (not_new k rid (older v.elems none k rid g))))
      where
        not_new : (k rid : ℕ) → holds_rid (Collecting v.elems) k rid ⊎ ((k ≡ length v.elems) × (none ≡ some rid)) → holds_rid (Collecting v.elems) k rid
        not_new k rid (inl g) = g
        not_new k rid (inr e) = clash (cc e.1)

    combiner_go_to_responding_inductive : source.CombinerGoToResponding pre post → Invariants post
    combiner_go_to_responding_inductive v =
        rw v.update
        (moved_on _ (v.require_full, omega arith)
        (λ k rid h g. (omega arith, (rw v.require at g).1))
        (λ k rid h g. rw v.require (omega (arith, h, v.require_full), g.1)))

    -- the cursor's element has no id
    combiner_send_skip_inductive : source.CombinerSendSkip pre post → Invariants post
    combiner_send_skip_inductive v =
        rw v.update
        (moved_on _ ((rw v.require at i.size).0, omega (arith, v.require_left))
        (λ k rid h g.
        let u = rw v.require at g in
        let other : ¬ (k ≡ v.j) = λ e. clash (cc (rw e at u.1, v.require_none)) in
        (omega (arith, u.0, other), u.1))
        (λ k rid h g. rw v.require (omega (arith, g.0), g.1)))

    -- the cursor is behind every client
    combiner_go_to_collecting_inductive : source.CombinerGoToCollecting pre post → Invariants post
    combiner_go_to_collecting_inductive v =
        rw v.update
        (moved_on _ (omega arith)
        (λ k rid h g. absurd (omega (arith, h, (rw v.require at g).0)))
        (λ k rid h g. absurd (omega (arith, g.0))))

-- ---------- every transition

pub inductive : (x : Transition) (pre post : FlatCombiner) → Invariants pre → Moves pre x post → Invariants post
inductive (source.client_send j request) pre post i v = client_send_inductive pre i post j request v
inductive (source.client_recv j) pre post i v = client_recv_inductive pre i post j v
inductive source.combiner_recv pre post i v = combiner_recv_inductive pre i post v
inductive source.combiner_skip pre post i v = combiner_skip_inductive pre i post v
inductive source.combiner_go_to_responding pre post i v = combiner_go_to_responding_inductive pre i post v
inductive (source.combiner_send response) pre post i v = combiner_send_inductive pre i post response v
inductive source.combiner_send_skip pre post i v = combiner_send_skip_inductive pre i post v
inductive source.combiner_go_to_collecting pre post i v = combiner_go_to_collecting_inductive pre i post v

-- ---------- what is deposited and withdrawn

pub safe : (x : Transition) (pre post : FlatCombiner) → Invariants pre → Moves pre x post → Safe pre x
safe (source.client_send j request) pre post i v = no_value (pre.requests j) (λ q e. clash (cc ((i.requests j q e).1, v.removes_client)))
safe (source.client_recv j) pre post i v =
    let p = has_response pre i j v.rid v.require v.removes v.have in
    (p.0.rid, p.0.resp, (i.responses j p.0 p.1).1, p.1)
safe source.combiner_recv pre post i v =
    let q = has_request pre i v.elems v.require v.require_left v.have in
    (v.elems, q.0, v.require, q.1)
safe source.combiner_skip pre post i v = tt
safe source.combiner_go_to_responding pre post i v = tt
safe (source.combiner_send response) pre post i v =
    let c = i.combiner v.j response.rid v.require_left (rw v.require (omega arith, v.require_rid)) in
    (v.elems, v.j, v.require, no_value (pre.responses v.j) (λ p e. clash (cc ((i.responses v.j p e).2, c.1))))
safe source.combiner_send_skip pre post i v = tt
safe source.combiner_go_to_collecting pre post i v = tt

-- ---------- `initialize`

pub initialize_inductive : (n : ℕ) → Invariants (initialize n)
initialize_inductive n =
    record {
      clients = record { inside = λ k h. (Idle, rw (lt-ltb k n h)); outside = λ k h. rw (le-ltb k n h) };
      slots = record { inside = λ k h. (false, rw (lt-ltb k n h)); outside = λ k h. rw (le-ltb k n h) };
      size = omega arith;
      idle = λ k h e. rw (lt-ltb k n h);
      waiting = λ k h. clash (cc (rw (lt-ltb k n h.0) at h.1.1));
      requests = λ k q e. clash (cc);
      responses = λ k p e. clash (cc);
      combiner = λ k rid h g. absurd (omega (arith, g.0));
    }
