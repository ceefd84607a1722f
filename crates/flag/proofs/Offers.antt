-- The source's protocol, told by two counts: how many threads stand at 5 and how many at 6. Assumes nothing.
use Prim.Native.Nat.{ℕ, zero, suc, ◌+◌}
use mathlib.Core.Path.{◌≡◌, refl, sym, ◌∙◌}
use mathlib.Core.Bool.{true, false}
use mathlib.Core.Logic.{inl, inr}
use mathlib.Core.List.{List}
use native.Mathlib.Omega.{arith}
use lib.Dec.{eqb}
use lib.ListN.{get_or}
use borrow.Author.Tests.{eqb-true, eq-eqb, ne_eqb}
use Rattle.rows.specs.Walk.{many}
use Rattle.rows.proofs.Cases.{cannot, clash, both_true, true_both}
use Rattle.rows.proofs.Row.{many_none}
use Rattle.flag.specs.Source as source
use Rattle.flag.specs.Source.{Control}
use Rattle.flag.specs.Invariants.{Protocol, Waits, Empty, Offering, Accepted}
use Rattle.flag.specs.Sound.{at_second, at_store, handshake}
use Rattle.flag.specs.Refined.{control}
use Rattle.flag.proofs.Loop.{waiting, second_five, waits_waiting, waiting_waits, five_second, six_store}
use Rattle.flag.proofs.Counts.{first_place, first_passes, none_many, sole_many, many_one, many_either}

-- `pending` d with `fives` threads at 5 and `sixes` at 6
abbrev pub Handshake : ℕ → ℕ → ℕ → Type 0
Handshake zero fives sixes = (fives ≡ 0) × (sixes ≡ 0)
Handshake (suc zero) fives sixes = (fives ≡ 1) × (sixes ≡ 0)
Handshake (suc (suc zero)) fives sixes = fives + sixes ≡ 1
Handshake (suc (suc (suc d))) fives sixes = ⊥

-- ---------- the test says it

pub test_handshake : (d a b : ℕ) → handshake d a b ≡ true → Handshake d a b
test_handshake zero a b h =
    let k = both_true (eqb a 0) (eqb b 0) h in
    (eqb-true a 0 k.0, eqb-true b 0 k.1)
test_handshake (suc zero) a b h =
    let k = both_true (eqb a 1) (eqb b 0) h in
    (eqb-true a 1 k.0, eqb-true b 0 k.1)
test_handshake (suc (suc zero)) a b h = eqb-true (a + b) 1 h
test_handshake (suc (suc (suc d))) a b h =
    let p = suc (suc (suc d)) in
    let z = rw (ne_eqb p 0 (λ e. omega arith), ne_eqb p 1 (λ e. omega arith), ne_eqb p 2 (λ e. omega arith)) at h in
    clash (cc)

pub handshake_test : (d a b : ℕ) → Handshake d a b → handshake d a b ≡ true
handshake_test zero a b h = true_both (eq-eqb a 0 h.0) (eq-eqb b 0 h.1)
handshake_test (suc zero) a b h = true_both (eq-eqb a 1 h.0) (eq-eqb b 0 h.1)
handshake_test (suc (suc zero)) a b h = eq-eqb (a + b) 1 h
handshake_test (suc (suc (suc d))) a b h = absurd h

-- ---------- the counts are the protocol's three cases

five_not_six : (p : ℕ) → at_second p ≡ true → at_store p ≡ false
five_not_six p b = rw (eqb-true p 5 b)

-- those who wait stand at 5 or 6
waiting_counts : (ps : List ℕ) → many waiting ps ≡ many at_second ps + many at_store ps
waiting_counts ps = many_either at_second at_store five_not_six ps

abbrev loops : List ℕ → ℕ → Control
loops ps k = control (get_or ps k 0)

-- nobody waits, or one alone does
none_waits : (ps : List ℕ) → many waiting ps ≡ 0 → (k : ℕ) → Waits (loops ps k) → ⊥
none_waits ps m k w =
    let z = many_none waiting ps 0 refl m k in
    let t = waits_waiting (get_or ps k 0) w in
    clash (cc)

one_waits : (ps : List ℕ) (k : ℕ) → many waiting ps ≡ 1 → Waits (loops ps k) → (j : ℕ) → Waits (loops ps j) → j ≡ k
one_waits ps k m w j v = many_one waiting ps k 0 refl m (waits_waiting (get_or ps k 0) w) j (waits_waiting (get_or ps j 0) v)

pub handshake_protocol : (d : ℕ) (ps : List ℕ) → Handshake d (many at_second ps) (many at_store ps) → Protocol d (loops ps)
handshake_protocol zero ps h = Empty refl (none_waits ps (omega (arith, waiting_counts ps)))
handshake_protocol (suc zero) ps h =
    let k = first_place at_second ps in
    let e = five_second (get_or ps k 0) (first_passes at_second ps 0 (omega (arith, h.0))).0 in
    Offering k refl e (one_waits ps k (omega (arith, waiting_counts ps)) (inl e))
handshake_protocol (suc (suc zero)) ps h =
    let k = first_place waiting ps in
    let m : many waiting ps ≡ 1 = omega (arith, waiting_counts ps) in
    let w = waiting_waits (get_or ps k 0) (first_passes waiting ps 0 (omega arith)).0 in
    Accepted k refl w (one_waits ps k m w)
handshake_protocol (suc (suc (suc d))) ps h = absurd h

-- ---------- and the three cases have these counts

-- who does not wait stands at neither
module _ (ps : List ℕ) (j : ℕ) (n : Waits (loops ps j) → ⊥) where
  not_waiting : waiting (get_or ps j 0) ≡ false
  not_waiting = cannot (waiting (get_or ps j 0)) (λ b. n (waiting_waits (get_or ps j 0) b))

  not_five : at_second (get_or ps j 0) ≡ false
  not_five = cannot (at_second (get_or ps j 0)) (λ b. n (inl (five_second (get_or ps j 0) b)))

  not_six : at_store (get_or ps j 0) ≡ false
  not_six = cannot (at_store (get_or ps j 0)) (λ b. n (inr (six_store (get_or ps j 0) b)))

-- the one who offers stands at 5, and so not at 6
sixes_beside : (ps : List ℕ) (k : ℕ) → loops ps k ≡ source.try_handshake_second → ((j : ℕ) → Waits (loops ps j) → j ≡ k) → (j : ℕ) → at_store (get_or ps j 0) ≡ false
sixes_beside ps k e f j = cannot (at_store (get_or ps j 0)) (λ b.
    let s = six_store (get_or ps j 0) b in
    let q = f j (inr s) in
    clash (cc))

pub protocol_handshake : (d : ℕ) (ps : List ℕ) → Protocol d (loops ps) → Handshake d (many at_second ps) (many at_store ps)
protocol_handshake d ps (Empty z n) = rw z (none_many at_second ps 0 (λ j. not_five ps j (n j)), none_many at_store ps 0 (λ j. not_six ps j (n j)))
protocol_handshake d ps (Offering k z e f) =
    rw z
    (sole_many at_second ps k 0 refl (rw (second_five (get_or ps k 0) e)) (λ j n. not_five ps j (λ w. n (f j w))), none_many at_store ps 0 (sixes_beside ps k e f))
protocol_handshake d ps (Accepted k z w f) =
    rw z
    (sym (waiting_counts ps) ∙ sole_many waiting ps k 0 refl (waits_waiting (get_or ps k 0) w) (λ j n. not_waiting ps j (λ v. n (f j v))))
