-- A sound state is told by what it stands for: two that stand for one state of the source are equal. Assumes nothing.
use Prim.Native.Nat.{ℕ, ◌≤◌}
use mathlib.Core.Path.{◌≡◌, refl, sym, ap, ◌∙◌}
use mathlib.Core.Bool.{Bool, true, false, cond}
use mathlib.Core.List.{List}
use mathlib.Core.Option.{Option, none}
use native.Mathlib.Omega.{arith}
use lib.Dec.{ltb}
use lib.ListN.{length, get_or}
use borrow.Author.Tests.{ltb-true, ltb-false}
use Rattle.rows.proofs.Cases.{on, clash}
use Rattle.machine.proofs.Known.{there_same, rows_alike}
use Rattle.flat.specs.Source as source
use Rattle.flat.specs.Source.{FlatCombiner, Waiting, Idle, Collecting, Responding}
use Rattle.flat.specs.Flat.{zero_client, zero_elem, client, elem}
use Rattle.flat.specs.Refined.{given, client_of, gathered, abs, Sound}
use Rattle.flat.specs.declared.state.Client.{Client}
use Rattle.flat.specs.declared.state.State.{State}
use Rattle.flat.proofs.Stages.{gathered_room}
use Rattle.flat.proofs.Elems.{gathered_length, gathered_at}
use Rattle.flat.proofs.Sounds.{means_stages}

-- ---------- the source's values

-- what is given by two flags, equal
given_same : {A : Type 0} (b c : Bool) (x y : A) → given b x ≡ given c y → (b ≡ c) × (b ≡ true → x ≡ y)
given_same true true x y e = (refl, λ t. cc e)
given_same true false x y e = clash (cc)
given_same false true x y e = clash (cc)
given_same false false x y e = (refl, λ t. clash (cc))

-- a number kept under a flag, and 0 under one that is off
kept_same : (b c : Bool) (x y : ℕ) → (b ≡ false → x ≡ 0) → (c ≡ false → y ≡ 0) → b ≡ c → (b ≡ true → x ≡ y) → x ≡ y
kept_same b c x y p q e t = on b t (λ f. p f ∙ sym (q (sym e ∙ f)))

client_same : (b c : Bool) (x y : ℕ) → (b ≡ false → x ≡ 0) → (c ≡ false → y ≡ 0) → cond b (Waiting x) Idle ≡ cond c (Waiting y) Idle → (b ≡ c) × (x ≡ y)
client_same true true x y p q e = (refl, cc e)
client_same true false x y p q e = clash (cc)
client_same false true x y p q e = clash (cc)
client_same false false x y p q e = (refl, p refl ∙ sym (q refl))

combiner_same : (b c : Bool) (es fs : List (Option ℕ)) (x y : ℕ) → (b ≡ false → x ≡ 0) → (c ≡ false → y ≡ 0)
    → cond b (Responding es x) (Collecting es) ≡ cond c (Responding fs y) (Collecting fs) → (b ≡ c) × (es ≡ fs) × (x ≡ y)
combiner_same true true es fs x y p q e = (refl, cc e, cc e)
combiner_same true false es fs x y p q e = clash (cc)
combiner_same false true es fs x y p q e = clash (cc)
combiner_same false false es fs x y p q e = (refl, cc e, p refl ∙ sym (q refl))

-- ---------- the whole state

module _ (s s' : State) (h : Sound s) (h' : Sound s') (e : abs s ≡ abs s') where
  counts : s.count ≡ s'.count
  counts = ap (λ (m : FlatCombiner). m.num_clients) e

  combiners : (s.responding ≡ s'.responding) × (gathered s ≡ gathered s') × (s.idx ≡ s'.idx)
  combiners = combiner_same s.responding s'.responding (gathered s) (gathered s') s.idx s'.idx h.unused_cursor h'.unused_cursor
      (ap (λ (m : FlatCombiner). m.combiner) e)

  room : s.len ≤ length s.elems
  room = gathered_room s (means_stages s h)

  room' : s'.len ≤ length s'.elems
  room' = gathered_room s' (means_stages s' h')

  lens : s.len ≡ s'.len
  lens = sym (gathered_length s room) ∙ ap length combiners.1 ∙ gathered_length s' room'

  elems : (j : ℕ) → elem s j ≡ elem s' j
  elems j = on (ltb j s.len)
      (λ b.
      let l = ltb-true j s.len b in
      let q = there_same (elem s j).present (elem s' j).present (elem s j).rid (elem s' j).rid 0 (h.unused_ids j) (h'.unused_ids j)
      (sym (gathered_at s room j l) ∙ ap (λ (l : List (Option ℕ)). get_or l j none) combiners.1 ∙ gathered_at s' room' j (omega (arith, lens))) in
      λ i. record { rid = q.1 i; present = q.0 i })
      (λ b.
      let l = ltb-false j s.len b in
      h.unused_elems j l ∙ sym (h'.unused_elems j (omega (arith, lens))))

  module _ (j : ℕ) where
    abbrev c : Client
    c = client s j

    abbrev c' : Client
    c' = client s' j

    inside : ltb j s.count ≡ true → c ≡ c'
    inside b =
        let w = client_same c.waiting c'.waiting c.rid c'.rid (h.unused_rid j) (h'.unused_rid j)
        ((given_same (ltb j s.count) (ltb j s'.count) (client_of c) (client_of c') (ap (λ (m : FlatCombiner). m.clients j) e)).1 b) in
        let t = (given_same (ltb j s.count) (ltb j s'.count) c.slot c'.slot (ap (λ (m : FlatCombiner). m.slots j) e)).1 b in
        let r = given_same c.asked c'.asked _ _ (ap (λ (m : FlatCombiner). m.requests j) e) in
        let p = given_same c.told c'.told _ _ (ap (λ (m : FlatCombiner). m.responses j) e) in
        let req = kept_same c.asked c'.asked c.req c'.req (h.unused_req j) (h'.unused_req j) r.0
        (λ t. ap (λ (x : source.Request). x.req) (r.1 t)) in
        let resp = kept_same c.told c'.told c.resp c'.resp (h.unused_resp j) (h'.unused_resp j) p.0
        (λ t. ap (λ (x : source.Response). x.resp) (p.1 t)) in
        λ i. record { rid = w.1 i; req = req i; resp = resp i; waiting = w.0 i; asked = r.0 i; told = p.0 i; slot = t i }

    clients : c ≡ c'
    clients = on (ltb j s.count) inside
        (λ b.
        let l = ltb-false j s.count b in
        h.unused_clients j l ∙ sym (h'.unused_clients j (omega (arith, counts))))

  pub abs_tells : s ≡ s'
  abs_tells = λ i. record {
    clients = rows_alike s.clients s'.clients zero_client (h.whole_clients ∙ sym h'.whole_clients) clients i;
    elems = rows_alike s.elems s'.elems zero_elem (h.whole_elems ∙ sym h'.whole_elems) elems i;
    count = counts i;
    len = lens i;
    idx = combiners.2 i;
    responding = combiners.0 i;
  }
