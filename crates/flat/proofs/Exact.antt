-- The accepted histories of the flat combiner are those whose steps could come each in its place, by counts of what came before, and show what they must;
-- so every history from a fresh machine meets the demand. Assumes nothing.
use Prim.Native.Nat.{ℕ, ◌+◌, ◌≤◌, ◌<◌}
use mathlib.Core.Path.{◌≡◌, refl, sym, ap, ◌∙◌}
use mathlib.Core.Bool.{Bool, true, false, not}
use mathlib.Core.List.{List}
use native.Mathlib.Omega.{arith}
use lib.Dec.{ltb}
use lib.ListN.{length}
use borrow.Author.Tests.{eqb-true, eq-eqb, ltb-true, lt-ltb, not-true}
use Rattle.rows.specs.Walk.{bit}
use Rattle.rows.proofs.Cases.{on, clash}
use Rattle.machine.specs.Machine.{Accepted}
use Rattle.machine.proofs.Runs.{exact}
use Rattle.schedule.specs.declared.steps.FlatStep.{FlatStep}
use Rattle.schedule.specs.declared.steps.FlatStep.TheVariants.{ClientSend, ClientRecv, CombinerRecv, CombinerSkip, CombinerGoToResponding}
use Rattle.schedule.specs.declared.steps.FlatStep.TheVariants.{CombinerSend, CombinerSendSkip, CombinerGoToCollecting}
use Rattle.flat.specs.Flat.{flat, fresh_state, client, elem, logs}
use Rattle.flat.specs.Demand.{Hist, Message, recvs, sends, Collects, Responds, At, ClientTold, Could, CouldAt, Demanded, Exactly}
use Rattle.flat.specs.declared.state.Client.{Client}
use Rattle.flat.specs.declared.state.Elem.{Elem}
use Rattle.flat.specs.declared.state.State.{State}
use Rattle.flat.specs.declared.entry.Entry.{Entry}
use Rattle.flat.proofs.Stages.{held, responding}
use Rattle.flat.proofs.Kept.{Stage, at_rest, has_asked, was_gathered, was_answered}
use Rattle.flat.proofs.Demands.{Whole, whole, count_run, client_told, shows, turns_throughout}

-- a flag by its number
is_set : (b : Bool) → 0 < bit b → b ≡ true
is_set b e = on b (λ t. t) (λ f. absurd (omega (arith, rw f at e)))

is_clear : (b : Bool) → bit b ≡ 0 → not b ≡ true
is_clear b e = on b (λ t. absurd (omega (arith, rw t at e))) (λ f. rw f)

bit_small : (b : Bool) → bit b ≤ 1
bit_small true = omega arith
bit_small false = omega arith

-- a stage by the flags of the client's record
module _ {xs ys zs : List Message} {c : Client} {F : Type 0} {G : ℕ → Type 0} where
  told_flags : Stage xs ys zs c F G → c.told ≡ true → (c.waiting ≡ true) × (not c.slot ≡ true)
  told_flags (at_rest e v w f) t = clash (cc)
  told_flags (has_asked r q ws e v x w f) t = clash (cc)
  told_flags (was_gathered r e v w g) t = clash (cc)
  told_flags (was_answered r q e v w f) t = (rw e, rw e)

  asked_slot : Stage xs ys zs c F G → c.asked ≡ true → c.slot ≡ true
  asked_slot (at_rest e v w f) t = clash (cc)
  asked_slot (has_asked r q ws e v x w f) t = rw e
  asked_slot (was_gathered r e v w g) t = clash (cc)
  asked_slot (was_answered r q e v w f) t = clash (cc)

  -- it waits, with neither a request nor a response stored, while the combiner has its id, and only then
  waits_held : Stage xs ys zs c F G → bit c.waiting ≡ bit c.told + bit c.asked + 1 → (u : ℕ) × (c ≡ held u) × G u
  waits_held (at_rest e v w f) p = absurd (omega (arith, rw e at p))
  waits_held (has_asked r q ws e v x w f) p = absurd (omega (arith, rw e at p))
  waits_held (was_gathered r e v w g) p = (r, e, g)
  waits_held (was_answered r q e v w f) p = absurd (omega (arith, rw e at p))

  not_held : Stage xs ys zs c F G → bit c.waiting ≡ bit c.told + bit c.asked → F
  not_held (at_rest e v w f) p = f
  not_held (has_asked r q ws e v x w f) p = f
  not_held (was_gathered r e v w g) p = absurd (omega (arith, rw e at p))
  not_held (was_answered r q e v w f) p = f

  none_held : Stage xs ys zs c F G → ((u : ℕ) → G u → ⊥) → bit c.waiting ≡ bit c.told + bit c.asked
  none_held (at_rest e v w f) n = rw e
  none_held (has_asked r q ws e v x w f) n = rw e
  none_held (was_gathered r e v w g) n = absurd (n r g)
  none_held (was_answered r q e v w f) n = rw e

module _ (n : ℕ) (h : Hist) (s : State) (w : Whole h s) (e : s.count ≡ n) where
  told : (j : ℕ) → ClientTold h j (client s j)
  told = client_told h s w

  -- the mode by the rounds, and back
  collects : Collects h → not s.responding ≡ true
  collects c = is_clear s.responding (omega (arith, w.rounds.1))

  responds : Responds h → s.responding ≡ true
  responds c = is_set s.responding (omega (arith, w.rounds.1))

  is_collecting : not s.responding ≡ true → Collects h
  is_collecting o = omega (arith, rw (not-true s.responding o) at w.rounds.1)

  is_responding : s.responding ≡ true → Responds h
  is_responding o = rw o at w.rounds.1

  below : (j : ℕ) → j < n → ltb j s.count ≡ true
  below j l = lt-ltb j s.count (omega (arith, e))

  could : (x : FlatStep) → Accepted flat s x → Could n h x
  could (ClientSend j rid req) a = (omega (arith, e, ltb-true, a.0), (shows h s (ClientSend j rid req) w a).1)
  could (ClientRecv j) a = (omega (arith, e, ltb-true, a.0), (shows h s (ClientRecv j) w a).sent)
  could CombinerRecv a = (is_collecting a.0, omega (arith, e, w.rounds.0, ltb-true, a.1.0), (shows h s CombinerRecv w a).1)
  could CombinerSkip a = (is_collecting a.0, omega (arith, e, w.rounds.0, ltb-true, a.1.0))
  could CombinerGoToResponding a = (is_collecting a.0, omega (arith, e, w.rounds.0, eqb-true, a.1.0))
  could (CombinerSend rid resp) a =
      let m = responding w.inv.mode a.0 in
      let p = shows h s (CombinerSend rid resp) w a in
      (is_responding a.0, omega (arith, e, m.2, ltb-true, a.1.0), p.gathered, p.meant)
  could CombinerSendSkip a =
      let m = responding w.inv.mode a.0 in
      let o = not-true (elem s s.idx).present a.1.1.0 in
      let b = none_held (w.inv.stage s.idx) (λ u g. clash (cc (ap (λ (z : Elem). z.present) g.2))) in
      let c = told s.idx in
      (is_responding a.0, omega (arith, e, m.2, ltb-true, a.1.0), rw m.2 (omega (arith, b, c.waiting, c.asked, c.told)))
  could CombinerGoToCollecting a =
      let m = responding w.inv.mode a.0 in
      (is_responding a.0, omega (arith, e, m.2, eqb-true, a.1.0))

  accepted : (x : FlatStep) → Could n h x → Accepted flat s x
  accepted (ClientSend j rid req) c = (below j c.0, (is_clear (client s j).waiting (omega (arith, (told j).waiting, c.1)), tt))
  accepted (ClientRecv j) c =
      let t = told_flags (w.inv.stage j) (is_set (client s j).told (omega (arith, (told j).told, c.1))) in
      (below j c.0, (t.0, (t.1, tt)))
  accepted CombinerRecv c =
      let p = rw w.rounds.0 at c.2 in
      let t = asked_slot (w.inv.stage s.len) (is_set (client s s.len).asked (omega (arith, (told s.len).asked, p))) in
      (collects c.0, (below s.len (omega (arith, w.rounds.0, c.1)), (t, tt)))
  accepted CombinerSkip c = (collects c.0, (below s.len (omega (arith, w.rounds.0, c.1)), tt))
  accepted CombinerGoToResponding c = (collects c.0, (eq-eqb s.len s.count (omega (arith, e, w.rounds.0, c.1)), tt))
  accepted (CombinerSend rid resp) c =
      let o = responds c.0 in
      let m = responding w.inv.mode o in
      let k = told s.idx in
      let p = rw m.2 at c.2 in
      let q = rw m.2 at c.3 in
      let g = waits_held (w.inv.stage s.idx) (omega (arith, k.waiting, k.asked, k.told, p, bit_small (client s s.idx).waiting)) in
      let d : length (sends h s.idx) ≡ recvs h s.idx = omega (arith, rw g.1 at k.told) in
      let u : rid ≡ g.0 = rw d at q ∙ sym ((rw g.1 at k.id) refl) in
      (o, (below s.idx (omega (arith, m.2, c.1)), (rw g.2.2, (rw g.2.2 (eq-eqb rid g.0 u), tt))))
  accepted CombinerSendSkip c =
      let o = responds c.0 in
      let m = responding w.inv.mode o in
      let k = told s.idx in
      let p = rw m.2 at c.2 in
      let l : s.idx < n = omega (arith, m.2, c.1) in
      let f = not_held (w.inv.stage s.idx) (omega (arith, k.waiting, k.asked, k.told, p)) in
      (o, (below s.idx l, (rw (f (omega arith) (omega (arith, m.0, e, l))), tt)))
  accepted CombinerGoToCollecting c =
      let o = responds c.0 in
      (o, (eq-eqb s.idx s.count (omega (arith, e, (responding w.inv.mode o).2, c.1)), tt))

-- a step's log is told by what it must show
one_log : (h : Hist) (x : FlatStep) (k l : List Entry) → At h x k → At h x l → k ≡ l
one_log h (ClientSend j rid req) k l p q = p.0 ∙ sym q.0
one_log h (ClientRecv j) k l p q = p.told ∙ sym q.told
one_log h CombinerRecv k l p q = p.0 ∙ sym q.0
one_log h CombinerSkip k l p q = p ∙ sym q
one_log h CombinerGoToResponding k l p q = p ∙ sym q
one_log h (CombinerSend rid resp) k l p q = p.quiet ∙ sym q.quiet
one_log h CombinerSendSkip k l p q = p ∙ sym q
one_log h CombinerGoToCollecting k l p q = p ∙ sym q

pub exactly : Exactly
exactly n b = exact flat (fresh_state n) (λ h s. Whole h s × (s.count ≡ n)) (CouldAt n)
    (λ h s r. (whole n b h s r, count_run n r))
    (λ h s x i a. (could n h s i.0 i.1 x a, shows h s x i.0 a))
    (λ h s x l i p. let a = accepted n h s i.0 i.1 x p.0 in (a, one_log h x l (logs s x) p.1 (shows h s x i.0 a)))

pub demanded : Demanded
demanded n b h s r = record { steps = (exactly n b h).0 (s, r); turns = turns_throughout n b r }
