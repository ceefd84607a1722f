-- What each step shows of a history keeps its messages in turn: of any history, whatever machine made it. Assumes nothing.
use Prim.Native.Nat.{ℕ, suc, ◌+◌, ◌≤◌, ◌<◌}
use mathlib.Core.Path.{◌≡◌, refl, sym, subst, ap, ◌∙◌}
use mathlib.Core.List.{List, [], ◌∷◌, ◌++◌}
use native.Mathlib.Omega.{arith}
use lib.Dec.{eqb, ltb}
use lib.ListN.{length, length-append, get_or-append}
use lib.Seq.{get_or-append_seam}
use borrow.Author.Tests.{ltb-true, ltb-false, eqb-true}
use Rattle.rows.proofs.Cases.{on}
use Rattle.machine.specs.History.{AtEach}
use Rattle.machine.proofs.Runs.{suffices}
use Rattle.schedule.specs.declared.steps.FlatStep.{FlatStep}
use Rattle.schedule.specs.declared.steps.FlatStep.TheVariants.{ClientSend, ClientRecv, CombinerRecv, CombinerSkip, CombinerGoToResponding}
use Rattle.schedule.specs.declared.steps.FlatStep.TheVariants.{CombinerSend, CombinerSendSkip, CombinerGoToCollecting}
use Rattle.flat.specs.Demand.{Hist, Message, message, requests, answers, turn, sends, place, gatherings, recvs}
use Rattle.flat.specs.Demand.{nth, At, InTurn, Turns}
use Rattle.flat.specs.declared.entry.Entry.{Entry}

-- ---------- the k-th of some messages and one more

-- those before it stay, and it is the last
nth_front : (l : List Message) (m : Message) (k : ℕ) → k < length l → nth (l ++ m ∷ []) k ≡ nth l k
nth_front l m k h = get_or-append l (m ∷ []) (message 0 0) k h

pub nth_last : (l : List Message) (m : Message) (k : ℕ) → k ≡ length l → nth (l ++ m ∷ []) k ≡ m
nth_last l m k e = rw e (get_or-append_seam l m [] (message 0 0))

nth_snoc : (P : ℕ → Message → Type 0) (l : List Message) (m : Message) → ((k : ℕ) → k < length l → P k (nth l k)) → P (length l) m
    → (k : ℕ) → k < length (l ++ m ∷ []) → P k (nth (l ++ m ∷ []) k)
nth_snoc P l m old new k h = on (ltb k (length l))
    (λ b. rw (nth_front l m k (ltb-true k (length l) b)) (old k (ltb-true k (length l) b)))
    (λ b. let e : k ≡ length l = omega (arith, ltb-false k (length l) b, length-append l (m ∷ [])) in rw (nth_last l m k e, e) new)

-- ---------- what the steps show says that messages are in turn: of any history

in_turn : {xs ys zs : List Message} {g n : ℕ} → ((k : ℕ) → k < length zs → nth zs k ≡ nth ys k) → ((k : ℕ) → k < length ys → (nth ys k).id ≡ (nth xs k).id)
    → (length zs ≡ n) × (n ≤ length ys) × (length ys ≤ g) × (g ≤ length xs) × (length xs ≤ suc n) → InTurn xs ys zs g n
in_turn a m o =
    record {
      own_id = λ k l. ap (λ (m : Message). m.id) (a k l) ∙ m k (omega (arith, o));
      own_payload = a;
      sent_for = m;
      one_each = o.0;
      after_send = o.1;
      after_gathering = o.2;
      after_request = o.3;
      one_at_a_time = o.4;
    }

module _ {xs ys zs : List Message} {g n : ℕ} (t : InTurn xs ys zs g n) where
  asks_in_turn : (m : Message) → length xs ≡ n → InTurn (xs ++ m ∷ []) ys zs g n
  asks_in_turn m e = in_turn t.own_payload
      (λ k l. rw (nth_front xs m k (omega (arith, t))) (t.sent_for k l))
      (omega (arith, t, length-append xs (m ∷ [])))

  gathered_in_turn : length xs ≡ g + 1 → InTurn xs ys zs (suc g) n
  gathered_in_turn e = in_turn t.own_payload t.sent_for (omega (arith, t))

  sent_in_turn : (rid resp : ℕ) → g ≡ length ys + 1 → rid ≡ (nth xs (length ys)).id → InTurn xs (ys ++ message rid resp ∷ []) zs g n
  sent_in_turn rid resp e i =
      let m = message rid resp in
      in_turn (λ k l. rw (nth_front ys m k (omega (arith, t))) (t.own_payload k l))
      (nth_snoc (λ k m. m.id ≡ (nth xs k).id) ys m t.sent_for i)
      (omega (arith, t, length-append ys (m ∷ [])))

  told_in_turn : length xs ≡ n + 1 → length ys ≡ n + 1 → let m = nth ys n in InTurn xs ys (zs ++ message m.id m.load ∷ []) g (suc n)
  told_in_turn e f =
      in_turn (nth_snoc (λ k m. m ≡ nth ys k) zs (nth ys n) t.own_payload (rw t.one_each refl))
      t.sent_for
      (omega (arith, t, length-append zs (nth ys n ∷ [])))

turns_step : (h : Hist) (x : FlatStep) (l : List Entry) → Turns h → At h x l → Turns (record { did = x; wrote = l } ∷ h)
turns_step h (ClientSend q rid req) l t p = rw p.0 (λ j. on (eqb j q)
    (λ b. rw b (asks_in_turn (t j) (message rid req) (subst (λ x. length (requests h x) ≡ recvs h x) (sym (eqb-true j q b)) p.1)))
    (λ b. rw b (t j)))
turns_step h (ClientRecv q) l t p = rw p.told (λ j. on (eqb j q)
    (λ b. rw b
    (subst
    (λ x. InTurn (requests h x) (sends h x) (answers h x ++ message (nth (sends h q) (recvs h q)).id (nth (sends h q) (recvs h q)).load ∷ []) (gatherings h x) (suc (recvs h x)))
    (sym (eqb-true j q b))
    (told_in_turn (t q) p.asked p.sent)))
    (λ b. rw b (t j)))
turns_step h CombinerRecv l t p = rw p.0 (λ j. on (eqb j (place h))
    (λ b. rw b (gathered_in_turn (t j) (subst (λ x. length (requests h x) ≡ gatherings h x + 1) (sym (eqb-true j (place h) b)) p.1)))
    (λ b. rw b (t j)))
turns_step h CombinerSkip l t p = rw p t
turns_step h CombinerGoToResponding l t p = rw p t
turns_step h (CombinerSend rid resp) l t p = rw p.quiet (λ j. on (eqb j (turn h))
    (λ b. rw b
    (subst
    (λ x. InTurn (requests h x) (sends h x ++ message rid resp ∷ []) (answers h x) (gatherings h x) (recvs h x))
    (sym (eqb-true j (turn h) b))
    (sent_in_turn (t (turn h)) rid resp p.gathered p.meant)))
    (λ b. rw b (t j)))
turns_step h CombinerSendSkip l t p = rw p t
turns_step h CombinerGoToCollecting l t p = rw p t

pub steps_suffice : (h : Hist) → AtEach At h → Turns h
steps_suffice = suffices At Turns (λ j. in_turn (λ k l. absurd (omega arith)) (λ k l. absurd (omega arith)) (omega arith)) turns_step
