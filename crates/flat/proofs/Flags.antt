-- The source's invariants at one client, said of the client's flags: that they hold is that the client is in one of its four stages. Assumes nothing.
use Prim.Native.Nat.{ℕ}
use mathlib.Core.Path.{◌≡◌, refl, sym, ap, ◌∙◌}
use mathlib.Core.Bool.{true, false}
use mathlib.Core.Logic.{◌⊎◌, inl, inr}
use Rattle.rows.proofs.Cases.{on, cannot, clash}
use Rattle.flat.specs.declared.state.Client.{Client}
use Rattle.flat.specs.declared.state.Elem.{Elem}
use Rattle.flat.proofs.Stages.{held, FreeAt, HasAt, Stand, rests, asks, is_held, is_told, same_elem, same_client}

-- G: the combiner has this id of the client
pub record Flags (c : Client) (G : ℕ → Type 0) : Type 0 where
  pub idle : c.waiting ≡ false → c.slot ≡ false
  pub waits : c.waiting ≡ true → (c.asked ≡ true) ⊎ (c.told ≡ true) ⊎ ((rid : ℕ) × G rid)
  pub stores : c.asked ≡ true → (c.waiting ≡ true) × (c.slot ≡ true)
  pub tells : c.told ≡ true → (c.waiting ≡ true) × (c.slot ≡ false)
  pub has : (rid : ℕ) → G rid → (c.waiting ≡ true) × (c.rid ≡ rid) × (c.slot ≡ true) × (c.asked ≡ false)

-- what is not there is zero
pub record Zeros (c : Client) : Type 0 where
  pub no_rid : c.waiting ≡ false → c.rid ≡ 0
  pub no_req : c.asked ≡ false → c.req ≡ 0
  pub no_resp : c.told ≡ false → c.resp ≡ 0

-- ---------- what the combiner has of a client: nothing, or one id

module _ {j len idx : ℕ} {e : Elem} where
  pub has_free : FreeAt j len idx e → (rid : ℕ) → HasAt j len idx e rid → ⊥
  has_free f rid g = clash (cc (f g.0 g.1, g.2))

  pub has_one : (r u : ℕ) → HasAt j len idx e r → HasAt j len idx e u → r ≡ u
  has_one r u g k = ap (λ (x : Elem). x.rid) (sym g.2 ∙ k.2)

  pub free_none : ((rid : ℕ) → HasAt j len idx e rid → ⊥) → FreeAt j len idx e
  free_none n x y = on e.present
      (λ b. absurd (n e.rid (x, y, same_elem refl b)))
      (λ b. b)

-- ---------- a stage has its flags and zeros

module _ {c : Client} {F : Type 0} {G : ℕ → Type 0} where
  pub stand_flags : (F → (rid : ℕ) → G rid → ⊥) → ((r u : ℕ) → G r → G u → r ≡ u) → Stand c F G → Flags c G
  stand_flags n one (rests e f) =
      record { idle = λ w. rw e; waits = λ w. clash (cc); stores = λ w. clash (cc); tells = λ w. clash (cc); has = λ rid g. absurd (n f rid g) }
  stand_flags n one (asks rid req e f) =
      record {
        idle = λ w. clash (cc);
        waits = λ w. inl (rw e);
        stores = λ w. (rw e, rw e);
        tells = λ w. clash (cc);
        has = λ rid g. absurd (n f rid g);
      }
  stand_flags n one (is_held rid e g) =
      record {
        idle = λ w. clash (cc);
        waits = λ w. inr (inr (rid, g));
        stores = λ w. clash (cc);
        tells = λ w. clash (cc);
        has = λ u k. (rw e, rw e (one rid u g k), rw e, rw e);
      }
  stand_flags n one (is_told rid resp e f) =
      record {
        idle = λ w. clash (cc);
        waits = λ w. inr (inl (rw e));
        stores = λ w. clash (cc);
        tells = λ w. (rw e, rw e);
        has = λ rid g. absurd (n f rid g);
      }

  pub stand_zeros : Stand c F G → Zeros c
  stand_zeros (rests e f) = record { no_rid = λ w. rw e; no_req = λ w. rw e; no_resp = λ w. rw e }
  stand_zeros (asks rid req e f) = record { no_rid = λ w. clash (cc); no_req = λ w. clash (cc); no_resp = λ w. rw e }
  stand_zeros (is_held rid e g) = record { no_rid = λ w. clash (cc); no_req = λ w. rw e; no_resp = λ w. rw e }
  stand_zeros (is_told rid resp e f) = record { no_rid = λ w. clash (cc); no_req = λ w. rw e; no_resp = λ w. clash (cc) }

-- ---------- and flags and zeros settle a stage

module _ {c : Client} {F : Type 0} {G : ℕ → Type 0} (i : Flags c G) (z : Zeros c) (free : ((rid : ℕ) → G rid → ⊥) → F) where
  idle_stand : c.waiting ≡ false → Stand c F G
  idle_stand w =
      let a = cannot c.asked (λ b. clash (cc (i.stores b).0)) in
      let t = cannot c.told (λ b. clash (cc (i.tells b).0)) in
      rests (same_client (z.no_rid w) (z.no_req a) (z.no_resp t) w a t (i.idle w)) (free (λ rid g. clash (cc (i.has rid g).0)))

  asking_stand : c.asked ≡ true → Stand c F G
  asking_stand a =
      let k = i.stores a in
      let t = cannot c.told (λ b. clash (cc (i.tells b).1)) in
      asks c.rid c.req (same_client refl refl (z.no_resp t) k.0 a t k.1) (free (λ rid g. clash (cc (i.has rid g).3)))

  told_stand : c.told ≡ true → Stand c F G
  told_stand t =
      let k = i.tells t in
      let a = cannot c.asked (λ b. clash (cc (i.stores b).1)) in
      is_told c.rid c.resp (same_client refl (z.no_req a) refl k.0 a t k.1) (free (λ rid g. clash (cc (i.has rid g).2)))

  held_stand : (rid : ℕ) → G rid → Stand c F G
  held_stand rid g =
      let k = i.has rid g in
      let t = cannot c.told (λ b. clash (cc (i.tells b).1)) in
      is_held rid (same_client k.1 (z.no_req k.3) (z.no_resp t) k.0 k.3 t k.2) g

  waiting_stand : (c.asked ≡ true) ⊎ (c.told ≡ true) ⊎ ((rid : ℕ) × G rid) → Stand c F G
  waiting_stand (inl a) = asking_stand a
  waiting_stand (inr (inl t)) = told_stand t
  waiting_stand (inr (inr g)) = held_stand g.0 g.1

  pub flags_stand : Stand c F G
  flags_stand = on c.waiting (λ w. waiting_stand (i.waits w)) idle_stand

-- ---------- which stage a client is in where some of its flags are known

module _ {c : Client} {F : Type 0} {G : ℕ → Type 0} where
  -- an idle client has nothing stored
  pub idle_rests : Stand c F G → c.waiting ≡ false → (c.asked ≡ false) × (c.told ≡ false)
  idle_rests (rests e f) w = (rw e, rw e)
  idle_rests (asks rid req e f) w = clash (cc)
  idle_rests (is_held rid e g) w = clash (cc)
  idle_rests (is_told rid resp e f) w = clash (cc)

  -- a client that waits with its slot clear has its response, and only that
  pub clear_told : Stand c F G → c.waiting ≡ true → c.slot ≡ false → (c.asked ≡ false) × (c.told ≡ true)
  clear_told (rests e f) w t = clash (cc)
  clear_told (asks rid req e f) w t = clash (cc)
  clear_told (is_held rid e g) w t = clash (cc)
  clear_told (is_told rid resp e f) w t = (rw e, rw e)

  -- a client with its slot set that the combiner has nothing of has its request
  pub set_asks : Stand c F G → ((rid : ℕ) → G rid → ⊥) → c.slot ≡ true → c.asked ≡ true
  set_asks (rests e f) n t = clash (cc)
  set_asks (asks rid req e f) n t = rw e
  set_asks (is_held rid e g) n t = absurd (n rid g)
  set_asks (is_told rid resp e f) n t = clash (cc)

  -- a client that the combiner has something of was gathered
  pub had_held : Stand c F G → (F → ⊥) → (rid : ℕ) × (c ≡ held rid) × G rid
  had_held (rests e f) n = absurd (n f)
  had_held (asks rid req e f) n = absurd (n f)
  had_held (is_held rid e g) n = (rid, e, g)
  had_held (is_told rid resp e f) n = absurd (n f)
