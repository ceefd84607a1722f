-- Every accepted step keeps the stages, and with them the lists of what a client sent, was sent and was told: one argument over any such lists, from
-- which soundness follows here and demand 3 in proofs/Demands.antt. Assumes nothing.
use Prim.Native.Nat.{ℕ}
use mathlib.Core.Path.{◌≡◌, refl, sym, ap, ◌∙◌}
use mathlib.Core.Bool.{true, false, not}
use mathlib.Core.List.{List, [], ◌∷◌, ◌++◌, map}
use native.Mathlib.Omega.{arith}
use lib.Dec.{eqb}
use lib.Seq.{get_or-set_same, get_or-set_other}
use borrow.Author.Tests.{ltb-true, eq-eqb, ne_eqb, eqb-true, not-true}
use Rattle.rows.proofs.Cases.{clash}
use Rattle.rows.proofs.Row.{row_case}
use Rattle.machine.specs.Machine.{Accepted}
use Rattle.schedule.specs.declared.steps.FlatStep.{FlatStep}
use Rattle.schedule.specs.declared.steps.FlatStep.TheVariants.{ClientSend, ClientRecv, CombinerRecv, CombinerSkip, CombinerGoToResponding}
use Rattle.schedule.specs.declared.steps.FlatStep.TheVariants.{CombinerSend, CombinerSendSkip, CombinerGoToCollecting}
use Rattle.flat.specs.Flat.{flat, zero_client, zero_elem, client, elem, sending, receiving, gathering, answering, next, logs}
use Rattle.flat.specs.Refined.{Sound}
use Rattle.flat.specs.Demand.{Message, message, add, add_request, add_answers, turn_after, add_send}
use Rattle.flat.specs.declared.state.Client.{Client}
use Rattle.flat.specs.declared.state.Elem.{Elem}
use Rattle.flat.specs.declared.state.State.{State}
use Rattle.flat.proofs.Stages.{asking, held, answered, holding, Free, Has, Stand, rests, asks, is_held, is_told}
use Rattle.flat.proofs.Stages.{Mode, collects, responds, Rows, Stages, collecting, responding, own_turn}
use Rattle.flat.proofs.Unused.{in_clients, in_elems, rows_next}
use Rattle.flat.proofs.Sounds.{stages_mean, means_stages}

abbrev pub ids : List Message → List ℕ
ids l = map (λ m. m.id) l

ids_snoc : (l : List Message) (m : Message) → ids (l ++ m ∷ []) ≡ ids l ++ m.id ∷ []
ids_snoc [] m = refl
ids_snoc (x ∷ l) m = ap (λ (t : List ℕ). x.id ∷ t) (ids_snoc l m)

pub asked_ids : {xs : List Message} (ws ys : List Message) (m : Message) → xs ≡ ws ++ m ∷ [] → ids ws ≡ ids ys → ids xs ≡ ids ys ++ m.id ∷ []
asked_ids ws ys m x w = ap ids x ∙ ids_snoc ws m ∙ rw w

-- ---------- a client's stage with its lists

-- xs requests, ys combiner_sends, zs answers, oldest first; c the client; F: the combiner has nothing of it, G rid: it has this id
pub data Stage (xs ys zs : List Message) (c : Client) (F : Type 0) (G : ℕ → Type 0) : Type 0 where
  at_rest : c ≡ zero_client → ys ≡ zs → ids xs ≡ ids ys → F → Stage xs ys zs c F G
  has_asked : (rid req : ℕ) (ws : List Message) → c ≡ asking rid req → ys ≡ zs → xs ≡ ws ++ message rid req ∷ [] → ids ws ≡ ids ys → F
      → Stage xs ys zs c F G
  was_gathered : (rid : ℕ) → c ≡ held rid → ys ≡ zs → ids xs ≡ ids ys ++ rid ∷ [] → G rid → Stage xs ys zs c F G
  was_answered : (rid resp : ℕ) → c ≡ answered rid resp → ys ≡ zs ++ message rid resp ∷ [] → ids xs ≡ ids ys → F → Stage xs ys zs c F G

module _ {xs ys zs : List Message} {c : Client} {F : Type 0} {G : ℕ → Type 0} where
  client_send_stage : (rid req : ℕ) → not c.waiting ≡ true → Stage xs ys zs c F G → Stage (xs ++ message rid req ∷ []) ys zs (sending c rid req) F G
  client_send_stage rid req t (at_rest e v w f) = has_asked rid req xs (rw e) v refl w f
  client_send_stage rid req t (has_asked r q ws e v x w f) = clash (cc)
  client_send_stage rid req t (was_gathered r e v w g) = clash (cc)
  client_send_stage rid req t (was_answered r q e v w f) = clash (cc)

  client_recv_stage : c.waiting ≡ true → not c.slot ≡ true → Stage xs ys zs c F G → Stage xs ys (zs ++ message c.rid c.resp ∷ []) (receiving c) F G
  client_recv_stage t u (at_rest e v w f) = clash (cc)
  client_recv_stage t u (has_asked r q ws e v x w f) = clash (cc)
  client_recv_stage t u (was_gathered r e v w g) = clash (cc)
  client_recv_stage t u (was_answered r q e v w f) = at_rest (rw e) (rw e v) w f

module _ {xs ys zs : List Message} {c : Client} {F : Type 0} {G : ℕ → Type 0} {F' : Type 0} {G' : ℕ → Type 0} where
  -- the client stays as it is, and the combiner has of it what it had
  same_stage : (F → F') → ((rid : ℕ) → G rid → G' rid) → Stage xs ys zs c F G → Stage xs ys zs c F' G'
  same_stage f g (at_rest e v w a) = at_rest e v w (f a)
  same_stage f g (has_asked r q ws e v x w a) = has_asked r q ws e v x w (f a)
  same_stage f g (was_gathered r e v w a) = was_gathered r e v w (g r a)
  same_stage f g (was_answered r q e v w a) = was_answered r q e v w (f a)

  combiner_recv_stage : c.slot ≡ true → ((rid : ℕ) → G rid → ⊥) → G' c.rid → Stage xs ys zs c F G → Stage xs ys zs (gathering c) F' G'
  combiner_recv_stage t n g (at_rest e v w f) = clash (cc)
  combiner_recv_stage t n g (has_asked r q ws e v x w f) = was_gathered r (rw e) v (asked_ids ws ys (message r q) x w) (rw e at g)
  combiner_recv_stage t n g (was_gathered r e v w a) = absurd (n r a)
  combiner_recv_stage t n g (was_answered r q e v w f) = clash (cc)

  combiner_send_stage : (rid resp : ℕ) → (F → ⊥) → ((u : ℕ) → G u → u ≡ rid) → F' → Stage xs ys zs c F G
      → Stage xs (ys ++ message rid resp ∷ []) zs (answering c resp) F' G'
  combiner_send_stage rid resp n g f (at_rest e v w a) = absurd (n a)
  combiner_send_stage rid resp n g f (has_asked r q ws e v x w a) = absurd (n a)
  combiner_send_stage rid resp n g f (was_gathered u e v w a) =
      was_answered rid resp (rw (e, g u a)) (rw v) (w ∙ rw (g u a) (sym (ids_snoc ys (message rid resp)))) f
  combiner_send_stage rid resp n g f (was_answered r q e v w a) = absurd (n a)

-- ---------- the whole state with its lists

-- X requests, Y combiner_sends, Z answers of each client, t the turn
pub record Listed (X Y Z : ℕ → List Message) (t : ℕ) (s : State) : Type 0 where
  pub rows : Rows s
  pub mode : Mode s.responding s.idx s.len s.count t
  pub stage : (j : ℕ) → Stage (X j) (Y j) (Z j) (client s j) (Free s j) (Has s j)

module _ (X Y Z : ℕ → List Message) (t : ℕ) (s : State) (i : Listed X Y Z t s) where
  -- the lists and the turn after a step
  abbrev After : FlatStep → Type 0
  After x = Listed (λ j. add_request j x (X j)) (λ j. add_send j t x (Y j)) (λ j. add_answers j (logs s x) (Z j)) (turn_after x t) (next s x)

  keep_client_send : (k rid req : ℕ) → Accepted flat s (ClientSend k rid req) → After (ClientSend k rid req)
  keep_client_send k rid req p =
      record {
        rows = rows_next s i.rows (ClientSend k rid req) p;
        mode = i.mode;
        stage = λ j. row_case (λ z. Stage (add (eqb j k) (message rid req) (X j)) (Y j) (Z j) z (Free s j) (Has s j)) s.clients k j _ zero_client
            (in_clients s i.rows k p.0)
            (λ e. rw (eq-eqb j k e, e) (client_send_stage rid req p.1.0 (i.stage k)))
            (λ n. rw (ne_eqb j k n) (i.stage j));
      }

  keep_client_recv : (k : ℕ) → Accepted flat s (ClientRecv k) → After (ClientRecv k)
  keep_client_recv k p =
      record {
        rows = rows_next s i.rows (ClientRecv k) p;
        mode = i.mode;
        stage = λ j. row_case (λ z. Stage (X j) (Y j) (add (eqb j k) (message (client s k).rid (client s k).resp) (Z j)) z (Free s j) (Has s j))
            s.clients k j _ zero_client
            (in_clients s i.rows k p.0)
            (λ e. rw (eq-eqb j k e, e) (client_recv_stage p.1.0 p.1.1.0 (i.stage k)))
            (λ n. rw (ne_eqb j k n) (i.stage j));
      }

  keep_combiner_recv : Accepted flat s CombinerRecv → After CombinerRecv
  keep_combiner_recv p =
      let k = s.len in
      let o = not-true s.responding p.0 in
      let m = collecting i.mode o in
      let b = in_elems s i.rows k p.1.0 in
      record {
        rows = rows_next s i.rows CombinerRecv p;
        mode = collects o m.0 (omega (arith, ltb-true, p.1.0));
        stage = λ j. row_case (λ z. Stage (X j) (Y j) (Z j) z (Free (next s CombinerRecv) j) (Has (next s CombinerRecv) j)) s.clients k j _ zero_client
            (in_clients s i.rows k p.1.0)
            (λ e. rw e
            (combiner_recv_stage p.1.1.0 (λ rid g. omega (arith, g.1)) (omega (arith, m.0), omega arith, get_or-set_same s.elems k _ zero_elem b) (i.stage k)))
            (λ n. same_stage
            (λ f x y. rw (get_or-set_other s.elems k j _ zero_elem n) (f x (omega arith)))
            (λ rid g. (g.0, omega (arith, g.1), rw (get_or-set_other s.elems k j _ zero_elem n) g.2))
            (i.stage j));
      }

  keep_combiner_skip : Accepted flat s CombinerSkip → After CombinerSkip
  keep_combiner_skip p =
      let k = s.len in
      let o = not-true s.responding p.0 in
      let m = collecting i.mode o in
      let b = in_elems s i.rows k p.1.0 in
      record {
        rows = rows_next s i.rows CombinerSkip p;
        mode = collects o m.0 (omega (arith, ltb-true, p.1.0));
        stage = λ j. same_stage
            (λ f x y. row_case (λ z. z.present ≡ false) s.elems k j zero_elem zero_elem b (λ _. refl) (λ n. f x (omega arith)))
            (λ rid g. (g.0, omega (arith, g.1), row_case (λ z. z ≡ holding rid) s.elems k j zero_elem zero_elem b (λ e. absurd (omega (arith, g.1))) (λ _. g.2)))
            (i.stage j);
      }

  keep_go_to_responding : Accepted flat s CombinerGoToResponding → After CombinerGoToResponding
  keep_go_to_responding p =
      let m = collecting i.mode (not-true s.responding p.0) in
      record {
        rows = rows_next s i.rows CombinerGoToResponding p;
        mode = responds refl (eqb-true s.len s.count p.1.0) (omega arith) refl;
        stage = λ j. same_stage (λ f x y. f (omega (arith, m.0)) y) (λ rid g. (omega arith, g.1, g.2)) (i.stage j);
      }

  -- the cursor's client was not answered yet, so that the combiner has its id, which is the step's
  keep_combiner_send : (rid resp : ℕ) → Accepted flat s (CombinerSend rid resp) → After (CombinerSend rid resp)
  keep_combiner_send rid resp p =
      let k = s.idx in
      let m = responding i.mode p.0 in
      let x = CombinerSend rid resp in
      record {
        rows = rows_next s i.rows x p;
        mode = responds p.0 m.0 (omega (arith, ltb-true, p.1.0)) (rw m.2);
        stage = λ j. row_case (λ z. Stage (X j) (add (eqb j t) (message rid resp) (Y j)) (Z j) z (Free (next s x) j) (Has (next s x) j)) s.clients k j _ zero_client
            (in_clients s i.rows k p.1.0)
            (λ e. rw (m.2, eq-eqb j k e, e)
            (combiner_send_stage rid resp
            (λ f. clash (cc (f (omega arith) (omega (arith, ltb-true, p.1.0, m.0)), p.1.1.0)))
            (λ u g. sym (rw g.2 at (eqb-true rid (elem s k).rid p.1.1.1.0)))
            (λ x y. absurd (omega arith))
            (i.stage k)))
            (λ n. rw (m.2, ne_eqb j k n) (same_stage (λ f x y. f (omega arith) y) (λ u g. (omega (arith, g.0), g.1, g.2)) (i.stage j)));
      }

  keep_combiner_send_skip : Accepted flat s CombinerSendSkip → After CombinerSendSkip
  keep_combiner_send_skip p =
      let k = s.idx in
      let m = responding i.mode p.0 in
      let e = not-true (elem s k).present p.1.1.0 in
      record {
        rows = rows_next s i.rows CombinerSendSkip p;
        mode = responds p.0 m.0 (omega (arith, ltb-true, p.1.0)) (rw m.2);
        stage = λ j. same_stage
            (λ f x y. f (omega arith) y)
            (λ u g. let n : ¬ (j ≡ k) = λ q. clash (cc (ap (λ (z : Elem). z.present) (rw q at g.2))) in (omega (arith, g.0), g.1, g.2))
            (i.stage j);
      }

  keep_go_to_collecting : Accepted flat s CombinerGoToCollecting → After CombinerGoToCollecting
  keep_go_to_collecting p =
      let m = responding i.mode p.0 in
      record {
        rows = rows_next s i.rows CombinerGoToCollecting p;
        mode = collects refl refl (omega arith);
        stage = λ j. same_stage (λ f x y. absurd (omega arith)) (λ u g. absurd (omega (arith, eqb-true, p.1.0, m.0, g.0, g.1))) (i.stage j);
      }

  pub keep : (x : FlatStep) → Accepted flat s x → After x
  keep (ClientSend k rid req) p = keep_client_send k rid req p
  keep (ClientRecv k) p = keep_client_recv k p
  keep CombinerRecv p = keep_combiner_recv p
  keep CombinerSkip p = keep_combiner_skip p
  keep CombinerGoToResponding p = keep_go_to_responding p
  keep (CombinerSend rid resp) p = keep_combiner_send rid resp p
  keep CombinerSendSkip p = keep_combiner_send_skip p
  keep CombinerGoToCollecting p = keep_go_to_collecting p

-- ---------- soundness: a sound state is one that some lists would lead to

-- for each stage the shortest lists that fit it
stage_lists : {c : Client} {F : Type 0} {G : ℕ → Type 0} → Stand c F G → (xs ys zs : List Message) × Stage xs ys zs c F G
stage_lists (rests e f) = ([], [], [], at_rest e refl refl f)
stage_lists (asks rid req e f) = (message rid req ∷ [], [], [], has_asked rid req [] e refl refl refl f)
stage_lists (is_held rid e g) = (message rid 0 ∷ [], [], [], was_gathered rid e refl refl g)
stage_lists (is_told rid resp e f) = (message rid 0 ∷ [], message rid resp ∷ [], [], was_answered rid resp e refl refl f)

list_stage : {xs ys zs : List Message} {c : Client} {F : Type 0} {G : ℕ → Type 0} → Stage xs ys zs c F G → Stand c F G
list_stage (at_rest e v w f) = rests e f
list_stage (has_asked rid req ws e v x w f) = asks rid req e f
list_stage (was_gathered rid e v w g) = is_held rid e g
list_stage (was_answered rid resp e v w f) = is_told rid resp e f

listed_stages : {X Y Z : ℕ → List Message} {t : ℕ} {s : State} → Listed X Y Z t s → Stages s
listed_stages i = record { rows = i.rows; mode = own_turn i.mode; stand = λ j. list_stage (i.stage j) }

stages_next : (s : State) (x : FlatStep) → Stages s → Accepted flat s x → Stages (next s x)
stages_next s x i a =
    listed_stages
    (keep (λ j. (stage_lists (i.stand j)).0) (λ j. (stage_lists (i.stand j)).1) (λ j. (stage_lists (i.stand j)).2) s.idx s
    (record { rows = i.rows; mode = i.mode; stage = λ j. (stage_lists (i.stand j)).3 }) x a)

pub accepted_sound : (s : State) (x : FlatStep) → Sound s → Accepted flat s x → Sound (next s x)
accepted_sound s x h a = stages_mean (next s x) (stages_next s x (means_stages s h) a)
