-- The table of codes: flat_combine.rs goes on exactly where no line applies, and the tests of a sound state tell the lines. Assumes nothing.
use Prim.Native.Nat.{ℕ, ◌<◌}
use mathlib.Core.Path.{◌≡◌, refl, sym, ◌∙◌}
use mathlib.Core.Bool.{Bool, true, false}
use mathlib.Core.List.{List}
use mathlib.Core.Option.{Option, none, some}
use native.Mathlib.Omega.{arith}
use lib.Dec.{ltb}
use lib.ListN.{length, get_or}
use borrow.Author.Tests.{eqb-true, eqb-false, ltb-true, ltb-false, not-true, not-false}
use Rattle.rows.proofs.Cases.{clash}
use Rattle.machine.specs.Sourced.{Clear}
use Rattle.machine.proofs.Known.{must_be, one_held}
use Rattle.machine.proofs.Reasons.{Tells, telling}
use Rattle.schedule.specs.declared.steps.FlatStep.{FlatStep}
use Rattle.schedule.specs.declared.steps.FlatStep.TheVariants.{ClientSend, ClientRecv, CombinerRecv, CombinerSkip, CombinerGoToResponding}
use Rattle.schedule.specs.declared.steps.FlatStep.TheVariants.{CombinerSend, CombinerSendSkip, CombinerGoToCollecting}
use Rattle.flat.specs.Source as source
use Rattle.flat.specs.Source.{FlatCombiner, Combiner, Collecting, Responding, Transition, Moves}
use Rattle.flat.specs.Invariants.{Invariants}
use Rattle.flat.specs.Flat.{client, elem, tests}
use Rattle.flat.specs.Refined.{elem_of, gathered, abs, label, lines, Sound}
use Rattle.flat.specs.declared.state.Client.{Client}
use Rattle.flat.specs.declared.state.Elem.{Elem}
use Rattle.flat.specs.declared.state.State.{State}
use Rattle.flat.proofs.Stages.{responding, gathered_room}
use Rattle.flat.proofs.Values.{given_some, of_idle, of_waits}
use Rattle.flat.proofs.Elems.{gathered_length, gathered_at}
use Rattle.flat.proofs.Sounds.{means_stages}
use Rattle.flat.proofs.Upheld.{no_value, has_request}

-- ---------- the source alone

must_be_id : (p : Option ℕ) (n : ℕ) → ((p ≡ some n → ⊥) → ⊥) → p ≡ some n
must_be_id none n h = absurd (h (λ e. clash (cc)))
must_be_id (some k) n h = rw (must_be k n (λ f. h (λ e. f (cc))))

-- a state of the source by its combiner: a claim by the combiner's two cases is one about every state
abbrev at : FlatCombiner → Combiner → FlatCombiner
at a k = record { num_clients = a.num_clients; clients = a.clients; slots = a.slots; combiner = k; requests = a.requests; responses = a.responses }

module _ (a : FlatCombiner) where
  idle : (j : ℕ) (c : source.Client) → a.clients j ≡ some c → ((rid : ℕ) × (a.clients j ≡ some (source.Waiting rid)) → ⊥) → a.clients j ≡ some source.Idle
  idle j source.Idle e n = e
  idle j (source.Waiting rid) e n = absurd (n (rid, e))

  waits : (j : ℕ) (c : source.Client) → a.clients j ≡ some c → (a.clients j ≡ some source.Idle → ⊥) → (rid : ℕ) × (a.clients j ≡ some (source.Waiting rid))
  waits j source.Idle e n = absurd (n e)
  waits j (source.Waiting rid) e n = (rid, e)

  is_set : (j : ℕ) (b : Bool) → a.slots j ≡ some b → (a.slots j ≡ some false → ⊥) → a.slots j ≡ some true
  is_set j true e n = e
  is_set j false e n = absurd (n e)

  is_clear : (j : ℕ) (b : Bool) → a.slots j ≡ some b → (a.slots j ≡ some true → ⊥) → a.slots j ≡ some false
  is_clear j true e n = absurd (n e)
  is_clear j false e n = e

by : (a : FlatCombiner) (k : Combiner) (y : Transition) → Invariants (at a k) → Clear (lines (at a k) y) → (to : FlatCombiner) × Moves (at a k) y to
by a k (source.client_send j request) i c =
    let h : j < a.num_clients = omega (arith, c.0) in
    let v = i.clients.inside j h in
    let t = i.slots.inside j h in
    (_, record { require = h; removes_client = idle a j v.0 v.1 c.1.0; cur_slot = t.0; removes_slot = t.1; update = refl })
by a k (source.client_recv j) i c =
    let h : j < a.num_clients = omega (arith, c.0) in
    let v = i.clients.inside j h in
    let w = waits a j v.0 v.1 c.1.0 in
    let t = i.slots.inside j h in
    (_, record { require = h; rid = w.0; removes = w.1; have = is_clear a j t.0 t.1 c.1.1.0; update = refl })
by a (Collecting es) source.combiner_recv i c =
    let h : length es < a.num_clients = omega (arith, c.1.0) in
    let t = i.slots.inside (length es) h in
    let b = is_set a (length es) t.0 t.1 c.1.1.0 in
    let q = has_request (at a (Collecting es)) i es refl h b in
    (_, record { elems = es; require = refl; require_left = h; have = b; request = q.0; withdraws = λ r e. one_held q.1 e; update = refl })
by a (Responding es j) source.combiner_recv i c = absurd (c.0 tt)
by a (Collecting es) source.combiner_skip i c = (_, record { elems = es; require = refl; require_left = omega (arith, c.1.0); update = refl })
by a (Responding es j) source.combiner_skip i c = absurd (c.0 tt)
by a (Collecting es) source.combiner_go_to_responding i c =
    (_, record { elems = es; require = refl; require_full = must_be (length es) a.num_clients c.1.0; update = refl })
by a (Responding es j) source.combiner_go_to_responding i c = absurd (c.0 tt)
by a (Collecting es) (source.combiner_send response) i c = absurd (c.0 tt)
by a (Responding es j) (source.combiner_send response) i c =
    let h : j < a.num_clients = omega (arith, c.1.0) in
    let t = i.slots.inside j h in
    let e = must_be_id (get_or es j none) response.rid c.1.1.0 in
    (_, record { elems = es; j = j; require = refl; require_left = h; require_rid = e; cur_slot = t.0; removes_slot = t.1; update = refl })
by a (Collecting es) source.combiner_send_skip i c = absurd (c.0 tt)
by a (Responding es j) source.combiner_send_skip i c =
    let e = no_value (get_or es j none) (λ rid e. c.1.1.0 (rid, e)) in
    (_, record { elems = es; j = j; require = refl; require_left = omega (arith, c.1.0); require_none = e; update = refl })
by a (Collecting es) source.combiner_go_to_collecting i c = absurd (c.0 tt)
by a (Responding es j) source.combiner_go_to_collecting i c =
    (_, record { elems = es; require = rw (must_be j a.num_clients c.1.0); update = refl })

pub goes : (y : Transition) (a : FlatCombiner) → Invariants a → Clear (lines a y) → (to : FlatCombiner) × Moves a y to
goes y a i c = by a a.combiner y i c

pub clear : (y : Transition) (a to : FlatCombiner) → Moves a y to → Clear (lines a y)
clear (source.client_send j request) a to v = (λ o. omega (arith, v.require), (λ w. clash (cc (v.removes_client, w.1)), tt))
clear (source.client_recv j) a to v = (λ o. omega (arith, v.require), (λ e. clash (cc v.removes), (λ e. clash (cc v.have), tt)))
clear source.combiner_recv a to v = rw v.require (λ w. w, (λ o. omega (arith, v.require_left), (λ e. clash (cc v.have), tt)))
clear source.combiner_skip a to v = rw v.require (λ w. w, (λ o. omega (arith, v.require_left), tt))
clear source.combiner_go_to_responding a to v = rw v.require (λ w. w, (λ n. n v.require_full, tt))
clear (source.combiner_send response) a to v = rw v.require (λ w. w, (λ o. omega (arith, v.require_left), (λ n. n v.require_rid, tt)))
clear source.combiner_send_skip a to v = rw v.require (λ w. w, (λ o. omega (arith, v.require_left), (λ w. clash (cc (v.require_none, w.1)), tt)))
clear source.combiner_go_to_collecting a to v = rw v.require (λ w. w, (λ n. n refl, tt))

-- ---------- the tests of a sound state tell the lines

abbrev state : List Client → List Elem → ℕ → ℕ → ℕ → Bool → State
state cs es n l i b = record { clients = cs; elems = es; count = n; len = l; idx = i; responding = b }

-- while it responds, the element below the cursor's limit is the row's
held : (cs : List Client) (es : List Elem) (n l i : ℕ) → let s = state cs es n l i true in
    Sound s → i < n → get_or (gathered s) i none ≡ elem_of (elem s i)
held cs es n l i k h =
    let s = state cs es n l i true in
    let m = means_stages s k in
    gathered_at s (gathered_room s m) i (omega (arith, (responding m.mode refl).0))

told : (cs : List Client) (es : List Elem) (n l i : ℕ) (b : Bool) (x : FlatStep) → let s = state cs es n l i b in
    Sound s → Tells (lines (abs s) (label x)) (tests s x)
told cs es n l i b (ClientSend j rid req) k =
    let c = client (state cs es n l i b) j in
    telling (ltb-false j n) (λ h o. omega (arith, ltb-true j n h)) (λ h.
    telling (λ e. (c.rid, rw (h, not-false c.waiting e)))
    (λ e w. clash (cc (not-true c.waiting e, (of_waits c w.0 (given_some (ltb j n) _ _ w.1).1).0))) (λ e. tt))
told cs es n l i b (ClientRecv j) k =
    let c = client (state cs es n l i b) j in
    telling (ltb-false j n) (λ h o. omega (arith, ltb-true j n h)) (λ h.
    telling (λ e. rw (h, e)) (λ w e. clash (cc (of_idle c (given_some (ltb j n) _ _ e).1))) (λ w.
    telling (λ e. rw (h, not-false c.slot e)) (λ e q. clash (cc (not-true c.slot e, (given_some (ltb j n) _ _ q).1))) (λ e. tt)))
told cs es n l i true CombinerRecv k = (λ e. tt, λ e. clash (cc))
told cs es n l i false CombinerRecv k =
    let s = state cs es n l i false in
    rw (gathered_length s (gathered_room s (means_stages s k)))
    (telling (λ e. clash (cc)) (λ e w. w) (λ e.
    telling (ltb-false l n) (λ h o. omega (arith, ltb-true l n h)) (λ h.
    telling (λ e. rw (h, e)) (λ e q. clash (cc (given_some (ltb l n) _ _ q).1)) (λ e. tt))))
told cs es n l i true CombinerSkip k = (λ e. tt, λ e. clash (cc))
told cs es n l i false CombinerSkip k =
    let s = state cs es n l i false in
    rw (gathered_length s (gathered_room s (means_stages s k)))
    (telling (λ e. clash (cc)) (λ e w. w) (λ e. telling (ltb-false l n) (λ h o. omega (arith, ltb-true l n h)) (λ h. tt)))
told cs es n l i true CombinerGoToResponding k = (λ e. tt, λ e. clash (cc))
told cs es n l i false CombinerGoToResponding k =
    let s = state cs es n l i false in
    rw (gathered_length s (gathered_room s (means_stages s k)))
    (telling (λ e. clash (cc)) (λ e w. w) (λ e. telling (eqb-false l n) (λ e f. f (eqb-true l n e)) (λ e. tt)))
told cs es n l i false (CombinerSend rid resp) k = (λ e. tt, λ e. clash (cc))
told cs es n l i true (CombinerSend rid resp) k =
    let d = elem (state cs es n l i true) i in
    telling (λ e. clash (cc)) (λ e w. w) (λ e.
    telling (ltb-false i n) (λ h o. omega (arith, ltb-true i n h)) (λ h.
    let q = held cs es n l i k (ltb-true i n h) in (
      λ e f. clash (cc (given_some d.present _ _ (sym q ∙ f)).0),
      λ p.
          telling (λ e f. eqb-false rid d.rid e (sym (given_some d.present _ _ (sym q ∙ f)).1))
          (λ e f. f (q ∙ rw (p, eqb-true rid d.rid e))) (λ e. tt),
    )))
told cs es n l i false CombinerSendSkip k = (λ e. tt, λ e. clash (cc))
told cs es n l i true CombinerSendSkip k =
    let d = elem (state cs es n l i true) i in
    telling (λ e. clash (cc)) (λ e w. w) (λ e.
    telling (ltb-false i n) (λ h o. omega (arith, ltb-true i n h)) (λ h.
    let q = held cs es n l i k (ltb-true i n h) in
    telling (λ e. (d.rid, q ∙ rw (not-false d.present e)))
    (λ e w. clash (cc (not-true d.present e, (given_some d.present _ _ (sym q ∙ w.1)).0))) (λ e. tt)))
told cs es n l i false CombinerGoToCollecting k = (λ e. tt, λ e. clash (cc))
told cs es n l i true CombinerGoToCollecting k =
    telling (λ e. clash (cc)) (λ e w. w) (λ e. telling (eqb-false i n) (λ e f. f (eqb-true i n e)) (λ e. tt))

pub tells : (s : State) (x : FlatStep) → Sound s → Tells (lines (abs s) (label x)) (tests s x)
tells s x k = told s.clients s.elems s.count s.len s.idx s.responding x k
