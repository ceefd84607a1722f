-- Demand 3's share: after a history each client's stage is told by its requests, gatherings, combiner_sends and client_recvs, and the combiner's place by its
-- rounds. So each step shows what it should, and histories whose steps do are in turn. Assumes nothing.
use Prim.Native.Nat.{ℕ, ◌+◌, ◌*◌, ◌≤◌}
use native.Mathlib.Nat.{mul-zero, mul-suc}
use mathlib.Core.Path.{◌≡◌, refl, sym, ap, ◌∙◌}
use mathlib.Core.Bool.{Bool, true, false, not}
use mathlib.Core.List.{List, [], ◌∷◌, ◌++◌, append-nil}
use native.Mathlib.Omega.{arith}
use lib.Dec.{eqb}
use lib.ListN.{length, get_or, length-append, length-map, get_or-map}
use lib.Seq.{get_or-append_seam}
use borrow.Author.Tests.{ltb-true, eqb-true, not-true}
use Rattle.rows.specs.Walk.{bit}
use Rattle.rows.proofs.Cases.{clash, tick_bit}
use Rattle.rows.proofs.Rows.{get_d_replicate}
use Rattle.rows.proofs.Row.{row_same, row_up, row_down}
use Rattle.machine.specs.Machine.{Accepted}
use Rattle.machine.specs.History.{event, Run, did#, AtEach, Throughout}
use Rattle.machine.proofs.Runs.{always, throughout, at_each}
use Rattle.schedule.specs.Limits as limit
use Rattle.schedule.specs.declared.steps.FlatStep.{FlatStep}
use Rattle.schedule.specs.declared.steps.FlatStep.TheVariants.{ClientSend, ClientRecv, CombinerRecv, CombinerSkip, CombinerGoToResponding}
use Rattle.schedule.specs.declared.steps.FlatStep.TheVariants.{CombinerSend, CombinerSendSkip, CombinerGoToCollecting}
use Rattle.flat.specs.Flat.{flat, zero_client, fresh_state, client, elem, next, logs, sending, receiving, gathering, answering}
use Rattle.flat.specs.Demand.{Hist, Message, message, add, requests, answers, turn, sends, place, gatherings, recvs, to_responding, to_collecting, at_place, at_turn}
use Rattle.flat.specs.Demand.{nth, At, Turns, ClientTold, StateCounted}
use Rattle.flat.specs.declared.state.Client.{Client}
use Rattle.flat.specs.declared.state.State.{State}
use Rattle.flat.specs.declared.entry.Entry.TheVariants.{Answer}
use Rattle.flat.proofs.Stages.{held, collecting, responding}
use Rattle.flat.proofs.Unused.{in_clients}
use Rattle.flat.proofs.Sounds.{fresh_stages}
use Rattle.flat.proofs.Kept.{ids, Stage, at_rest, has_asked, was_gathered, was_answered, Listed, keep, asked_ids}
use Rattle.flat.proofs.InTurn.{nth_last, steps_suffice}

-- ---------- the k-th of some messages

nth_id : (l : List Message) (k : ℕ) → get_or (ids l) k 0 ≡ (nth l k).id
nth_id l k = get_or-map (λ (m : Message). m.id) l k (message 0 0)

ids_length : (l : List Message) → length (ids l) ≡ length l
ids_length l = length-map l (λ m. m.id)

add_length : (b : Bool) (m : Message) (l : List Message) → length (add b m l) ≡ length l + bit b
add_length true m l = length-append l (m ∷ [])
add_length false m l = omega arith

-- ---------- what a stage says of the client's record

module _ {xs ys zs : List Message} {c : Client} {F : Type 0} {G : ℕ → Type 0} where
  asker : Stage xs ys zs c F G → c.slot ≡ true → ((u : ℕ) → G u → ⊥) → c.asked ≡ true
  asker (at_rest e v w f) t n = clash (cc)
  asker (has_asked r q ws e v x w f) t n = rw e
  asker (was_gathered r e v w g) t n = absurd (n r g)
  asker (was_answered r q e v w f) t n = clash (cc)

  holder : Stage xs ys zs c F G → (F → ⊥) → (u : ℕ) × (c ≡ held u) × G u
  holder (at_rest e v w f) n = absurd (n f)
  holder (has_asked r q ws e v x w f) n = absurd (n f)
  holder (was_gathered r e v w g) n = (r, e, g)
  holder (was_answered r q e v w f) n = absurd (n f)

  teller : Stage xs ys zs c F G → c.waiting ≡ true → not c.slot ≡ true → (c.told ≡ true) × (c.asked ≡ false)
  teller (at_rest e v w f) t u = clash (cc)
  teller (has_asked r q ws e v x w f) t u = clash (cc)
  teller (was_gathered r e v w g) t u = clash (cc)
  teller (was_answered r q e v w f) t u = (rw e, rw e)

-- its flags are counts of its messages, and what it stores is the message after the last answer
record Bits (xs ys zs : List Message) (c : Client) : Type 0 where
  waits : length xs ≡ length zs + bit c.waiting
  told : length ys ≡ length zs + bit c.told
  one : bit c.told + bit c.asked ≤ bit c.waiting
  id : c.waiting ≡ true → c.rid ≡ (nth xs (length zs)).id
  request : c.asked ≡ true → message c.rid c.req ≡ nth xs (length zs)
  response : c.told ≡ true → message c.rid c.resp ≡ nth ys (length zs)

-- xs has the ids of ys and then t
ids_more : (xs ys : List Message) (t : List ℕ) → ids xs ≡ ids ys ++ t → length xs ≡ length ys + length t
ids_more xs ys t e = omega (arith, ap length e, ids_length xs, ids_length ys, length-append (ids ys) t)

bits : {xs ys zs : List Message} {c : Client} {F : Type 0} {G : ℕ → Type 0} → Stage xs ys zs c F G → Bits xs ys zs c
bits {xs} {ys} {zs} (at_rest e v w f) =
    let l = ids_more xs ys [] (w ∙ sym (append-nil (ids ys))) in
    rw (e, v) (record { waits = omega (arith, l, ap length v); told = omega arith; one = omega arith; id = λ t. clash (cc); request = λ t. clash (cc); response = λ t. clash (cc) })
bits {xs} {ys} {zs} (has_asked r q ws e v x w f) =
    let l = ids_more xs ys (r ∷ []) (asked_ids ws ys (message r q) x w) in
    let n : length zs ≡ length ws = omega (arith, ids_more ws ys [] (w ∙ sym (append-nil (ids ys))), ap length v) in
    let m : nth xs (length zs) ≡ message r q = rw x (nth_last ws (message r q) (length zs) n) in
    rw e
    (record {
      waits = omega (arith, l, ap length v);
      told = omega (arith, ap length v);
      one = omega arith;
      id = λ t. ap (λ (m : Message). m.id) (sym m);
      request = λ t. sym m;
      response = λ t. clash (cc);
    })
bits {xs} {ys} {zs} (was_gathered r e v w g) =
    let l = ids_more xs ys (r ∷ []) w in
    let n : length zs ≡ length (ids ys) = omega (arith, ids_length ys, ap length v) in
    rw e
    (record {
      waits = omega (arith, l, ap length v);
      told = omega (arith, ap length v);
      one = omega arith;
      id = λ t. rw (← nth_id xs (length zs), w, n) (sym (get_or-append_seam (ids ys) r [] 0));
      request = λ t. clash (cc);
      response = λ t. clash (cc);
    })
bits {xs} {ys} {zs} (was_answered r q e v w f) =
    let l = ids_more xs ys [] (w ∙ sym (append-nil (ids ys))) in
    let n : length ys ≡ length zs + 1 = ap length v ∙ length-append zs (message r q ∷ []) in
    let m : nth ys (length zs) ≡ message r q = rw v (nth_last zs (message r q) (length zs) refl) in
    rw e
    (record {
      waits = omega (arith, l, n);
      told = n;
      one = omega arith;
      id = λ t. rw (← nth_id xs (length zs), w, nth_id ys (length zs), m) refl;
      request = λ t. clash (cc);
      response = λ t. sym m;
    })

-- ---------- what a history says of the state that it led to

abbrev pub Inv : Hist → State → Type 0
Inv h s = Listed (requests h) (sends h) (answers h) (turn h) s

-- the rounds of the combiner
abbrev pub Rounds : Hist → State → Type 0
Rounds h s =
    (place h ≡ s.len)
    × (did# to_responding h ≡ did# to_collecting h + bit s.responding)
    × (s.len + s.count * did# to_collecting h ≡ did# at_place h)
    × (s.idx + s.count * did# to_collecting h ≡ did# at_turn h)

keep_rounds : (h : Hist) (s : State) (x : FlatStep) → Inv h s → Rounds h s → Accepted flat s x → Rounds (event flat s x ∷ h) (next s x)
keep_rounds h s (ClientSend j rid req) i r p = r
keep_rounds h s (ClientRecv j) i r p = r
keep_rounds h s CombinerRecv i r p = omega (arith, r)
keep_rounds h s CombinerSkip i r p = omega (arith, r)
keep_rounds h s CombinerGoToResponding i r p =
    let o = not-true s.responding p.0 in
    omega (arith, r.0, rw o at r.1, r.2, r.3, (collecting i.mode o).0)
keep_rounds h s (CombinerSend rid resp) i r p = omega (arith, r)
keep_rounds h s CombinerSendSkip i r p = omega (arith, r)
keep_rounds h s CombinerGoToCollecting i r p =
    rw (mul-suc s.count (did# to_collecting h))
    (omega (arith, rw p.0 at r.1, r.2, r.3, responding i.mode p.0, eqb-true, p.1.0))

-- each client's client_recvs and gatherings
abbrev pub Shares : Hist → State → Type 0
Shares h s = (j : ℕ) → (length (answers h j) ≡ recvs h j) × (length (requests h j) ≡ gatherings h j + bit (client s j).asked)

module _ (h : Hist) (s : State) (i : Inv h s) (r : Rounds h s) (k : Shares h s) where
  keep_shares : (x : FlatStep) → Accepted flat s x → Shares (event flat s x ∷ h) (next s x)
  keep_shares (ClientSend q rid req) p = λ j.
      let b = in_clients s i.rows q p.0 in
      let o = (bits (i.stage q)).one in
      let u = row_up (λ c. bit c.asked) s.clients q j (sending (client s q) rid req) zero_client b (omega (arith, rw (not-true (client s q).waiting p.1.0) at o)) in
      ((k j).0, rw (add_length (eqb j q) (message rid req) (requests h j)) (omega (arith, (k j).1, u)))
  keep_shares (ClientRecv q) p = λ j.
      let b = in_clients s i.rows q p.0 in
      let u = row_same (λ c. bit c.asked) s.clients q j (receiving (client s q)) zero_client b refl in
      (rw (add_length (eqb j q) (message (client s q).rid (client s q).resp) (answers h j), tick_bit (eqb j q)) (omega (arith, (k j).0)), omega (arith, (k j).1, u))
  keep_shares CombinerRecv p = λ j.
      let b = in_clients s i.rows s.len p.1.0 in
      let a = asker (i.stage s.len) p.1.1.0 (λ u g. omega (arith, g.1)) in
      let u = row_down (λ c. bit c.asked) s.clients s.len j (gathering (client s s.len)) zero_client b (rw a) in
      ((k j).0, rw (r.0, tick_bit (eqb j s.len)) (omega (arith, (k j).1, u)))
  keep_shares CombinerSkip p = k
  keep_shares CombinerGoToResponding p = k
  keep_shares (CombinerSend rid resp) p = λ j.
      let b = in_clients s i.rows s.idx p.1.0 in
      let u = row_same (λ c. bit c.asked) s.clients s.idx j (answering (client s s.idx) resp) zero_client b refl in
      ((k j).0, omega (arith, (k j).1, u))
  keep_shares CombinerSendSkip p = k
  keep_shares CombinerGoToCollecting p = k

-- ---------- from a fresh machine on

pub record Whole (h : Hist) (s : State) : Type 0 where
  pub inv : Inv h s
  pub rounds : Rounds h s
  pub shares : Shares h s

module _ (n : ℕ) (b : n ≤ limit.clients) where
  fresh : Whole [] (fresh_state n)
  fresh =
      let i = fresh_stages n b in
      record {
        inv =
            record {
              rows = i.rows;
              mode = i.mode;
              stage = λ j. at_rest (get_d_replicate limit.clients j zero_client) refl refl (λ x y. absurd (omega arith));
            };
        rounds = rw (mul-zero n) (refl, refl, refl, refl);
        shares = λ j. (refl, rw (get_d_replicate limit.clients j zero_client) refl);
      }

  pub whole : (h : Hist) (s : State) → Run flat (fresh_state n) h s → Whole h s
  whole h s r = always flat (fresh_state n) Whole fresh
      (λ h s x w a. record {
        inv = keep (requests h) (sends h) (answers h) (turn h) s w.inv x a;
        rounds = keep_rounds h s x w.inv w.rounds a;
        shares = keep_shares h s w.inv w.rounds w.shares x a;
      }) r

-- ---------- the state, told by the history

pub client_told : (h : Hist) (s : State) → Whole h s → (j : ℕ) → ClientTold h j (client s j)
client_told h s w j =
    let b = bits (w.inv.stage j) in
    let e = (w.shares j).0 in
    record {
      waiting = rw e at b.waits;
      asked = (w.shares j).1;
      told = rw e at b.told;
      id = rw e at b.id;
      request = rw e at b.request;
      response = rw e at b.response;
    }

count_kept : (s : State) (x : FlatStep) → (next s x).count ≡ s.count
count_kept s (ClientSend j rid req) = refl
count_kept s (ClientRecv j) = refl
count_kept s CombinerRecv = refl
count_kept s CombinerSkip = refl
count_kept s CombinerGoToResponding = refl
count_kept s (CombinerSend rid resp) = refl
count_kept s CombinerSendSkip = refl
count_kept s CombinerGoToCollecting = refl

pub count_run : (n : ℕ) {h : Hist} {s : State} → Run flat (fresh_state n) h s → s.count ≡ n
count_run n r = always flat (fresh_state n) (λ h s. s.count ≡ n) refl (λ h s x e a. count_kept s x ∙ e) r

pub state_counted : StateCounted
state_counted n b h s r =
    let w = whole n b h s r in
    let e = count_run n r in
    let q = w.rounds in (
      record {
        count = e;
        mode = q.1;
        gathered = rw e at q.2;
        cursor = rw e at q.3;
        place_is = q.0;
        turn_is = λ t. (responding w.inv.mode t).2;
      },
      client_told h s w,
    )

-- ---------- what each step shows

pub shows : (h : Hist) (s : State) (x : FlatStep) → Whole h s → Accepted flat s x → At h x (logs s x)
shows h s (ClientSend j rid req) w p = (refl, omega (arith, rw (not-true (client s j).waiting p.1.0) at (client_told h s w j).waiting))
shows h s (ClientRecv j) w p =
    let c = client_told h s w j in
    let t = teller (w.inv.stage j) p.1.0 p.1.1.0 in
    record {
      asked = rw p.1.0 at c.waiting;
      gathered = omega (arith, rw p.1.0 at c.waiting, rw t.1 at c.asked);
      sent = rw t.0 at c.told;
      own_id = ap (λ (m : Message). m.id) (sym (c.response t.0)) ∙ c.id p.1.0;
      told = ap (λ (m : Message). Answer j m.id m.load ∷ []) (c.response t.0);
    }
shows h s CombinerRecv w p =
    let a = asker (w.inv.stage s.len) p.1.1.0 (λ u g. omega (arith, g.1)) in
    (refl, rw w.rounds.0 (rw a at (client_told h s w s.len).asked))
shows h s CombinerSkip w p = refl
shows h s CombinerGoToResponding w p = refl
shows h s (CombinerSend rid resp) w p =
    let c = client_told h s w s.idx in
    let m = responding w.inv.mode p.0 in
    let g = holder (w.inv.stage s.idx) (λ f. clash (cc (f (omega arith) (omega (arith, ltb-true, p.1.0, m.0)), p.1.1.0))) in
    let d : length (sends h s.idx) ≡ recvs h s.idx = omega (arith, rw g.1 at c.told) in
    rw m.2
    (record {
      gathered = omega (arith, rw g.1 at c.waiting, rw g.1 at c.asked, rw g.1 at c.told);
      meant = rw d (rw g.2.2 at (eqb-true rid (elem s s.idx).rid p.1.1.1.0) ∙ (rw g.1 at c.id) refl);
      quiet = refl;
    })
shows h s CombinerSendSkip w p = refl
shows h s CombinerGoToCollecting w p = refl

-- ---------- after each part of a history from a fresh machine

module _ (n : ℕ) (b : n ≤ limit.clients) where
  steps : (h : Hist) (s : State) → Run flat (fresh_state n) h s → AtEach At h
  steps h s r = at_each flat (fresh_state n) Whole At (whole n b) shows r

  pub turns_throughout : {h : Hist} {s : State} → Run flat (fresh_state n) h s → Throughout Turns h
  turns_throughout r = throughout flat (fresh_state n) Turns (λ h s r. steps_suffice h (steps h s r)) r
