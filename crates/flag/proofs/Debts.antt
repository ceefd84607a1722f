-- The flips that are begun and not yet logged, read off a thread's place: what a move logs is what it takes off. Assumes nothing.
use Prim.Native.Nat.{ℕ, zero, suc, ◌+◌, ◌<◌}
use mathlib.Core.Path.{◌≡◌, refl, sym, ap, ◌∙◌}
use mathlib.Core.Bool.{Bool, true, false, cond, not, not-not}
use mathlib.Core.List.{List}
use native.Mathlib.Omega.{arith}
use lib.Dec.{eqb}
use lib.ListN.{length, get_or, set}
use borrow.Author.Tests.{eqb-true, eqb-false, eq-eqb, ne_eqb}
use Rattle.rows.specs.Walk.{tick, many}
use Rattle.rows.proofs.Cases.{on, clash}
use Rattle.rows.proofs.Row.{row_case, many_set, many_none, many_sole}
use Rattle.machine.specs.History.{in#}
use Rattle.flag.specs.Source as source
use Rattle.flag.specs.Source.{Control}
use Rattle.flag.specs.Flag.{went, offerer, flipped}
use Rattle.flag.specs.Sound.{at_second, at_store}
use Rattle.flag.specs.Refined.{number, control}
use Rattle.flag.specs.Demand.{flip_of, any_flip, turned}
use Rattle.flag.proofs.Loop.{numbered, second_five}
use Rattle.flag.proofs.Offers.{Handshake}
use Rattle.flag.proofs.Offerer.{offerer_there}

-- 1 to 4 owe their flip; 5 owes it until another has carried it out, that is until `pending` is 2; 6 owes nothing
abbrev pub owes : Control → ℕ → ℕ
owes source.returned d = 0
owes source.try_cancel_two_flips d = 1
owes source.try_simple_flip d = 1
owes source.try_simple_flip_second d = 1
owes source.try_handshake d = 1
owes source.try_handshake_second d = cond (eqb d 2) 0 1
owes source.try_handshake_store d = 0

-- so `pending` concerns the thread at 5 alone
not_second : (c : Control) (d d' : ℕ) → (c ≡ source.try_handshake_second → ⊥) → owes c d ≡ owes c d'
not_second source.returned d d' n = refl
not_second source.try_cancel_two_flips d d' n = refl
not_second source.try_simple_flip d d' n = refl
not_second source.try_simple_flip_second d d' n = refl
not_second source.try_handshake d d' n = refl
not_second source.try_handshake_second d d' n = absurd (n refl)
not_second source.try_handshake_store d d' n = refl

not_concerned : (p d d' : ℕ) → at_second p ≡ false → owes (control p) d ≡ owes (control p) d'
not_concerned p d d' b = not_second (control p) d d' (λ e. eqb-false p 5 b (second_five p e))

-- nobody stands at 5, or k alone does: for all others `pending` is of no concern
none_concerned : (ps : List ℕ) (d d' : ℕ) → many at_second ps ≡ 0 → (q : ℕ) → owes (control (get_or ps q 0)) d ≡ owes (control (get_or ps q 0)) d'
none_concerned ps d d' m q = not_concerned (get_or ps q 0) d d' (many_none at_second ps 0 refl m q)

others_unconcerned : (ps : List ℕ) (k d d' : ℕ) → k < length ps → get_or ps k 0 ≡ 5 → many at_second ps ≡ 1
    → (q : ℕ) → ¬ (q ≡ k) → owes (control (get_or ps q 0)) d ≡ owes (control (get_or ps q 0)) d'
others_unconcerned ps k d d' r e m q n = not_concerned (get_or ps q 0) d d' (many_sole at_second ps k 0 refl r (rw e) (omega arith) q n)

-- ---------- B begun and F logged for each thread, over the places ps, of which k stands at c

module _ (B F : ℕ → ℕ) (ps : List ℕ) (k : ℕ) (c : Control) (r : k < length ps) (e : get_or ps k 0 ≡ number c) (d : ℕ)
    (i : (q : ℕ) → B q ≡ F q + owes (control (get_or ps q 0)) d) where
  here : B k ≡ F k + owes c d
  here = i k ∙ rw (e, numbered c)

  -- nothing is logged
  quiet : (p d' : ℕ) → owes c d ≡ owes (control p) d' → ((q : ℕ) → ¬ (q ≡ k) → owes (control (get_or ps q 0)) d ≡ owes (control (get_or ps q 0)) d')
      → (q : ℕ) → B q ≡ F q + owes (control (get_or (set ps k p) q 0)) d'
  quiet p d' o f q = row_case (λ z. B q ≡ F q + owes (control z) d') ps k q p 0 r
      (λ x. rw x (here ∙ rw o))
      (λ n. omega (arith, i q, f q n))

  -- the mover is logged
  own : owes c d ≡ 1 → (q : ℕ) → B q ≡ tick (eqb q k) (F q) + owes (control (get_or (set ps k 0) q 0)) d
  own o q = row_case (λ z. B q ≡ tick (eqb q k) (F q) + owes (control z) d) ps k q 0 0 r
      (λ x. rw (eq-eqb q k x, x) (omega (arith, here, o)))
      (λ n. rw (ne_eqb q k n) (i q))

-- the one who offers, and the mover, are logged
both : (B F : ℕ → ℕ) (ps : List ℕ) (k : ℕ) → k < length ps → get_or ps k 0 ≡ 1 → many at_second ps ≡ 1 → ((q : ℕ) → B q ≡ F q + owes (control (get_or ps q 0)) 1)
    → (q : ℕ) → B q ≡ tick (eqb q (offerer ps)) (tick (eqb q k) (F q)) + owes (control (get_or (set ps k 0) q 0)) 2
both B F ps k r e m i q =
    let o = offerer_there ps (omega arith) in
    let apart : ¬ (k ≡ offerer ps) = λ x. omega (arith, o.0, rw x at e) in
    row_case (λ z. B q ≡ tick (eqb q (offerer ps)) (tick (eqb q k) (F q)) + owes (control z) 2) ps k q 0 0 r
    (λ x. rw (eq-eqb q k x, x, ne_eqb k (offerer ps) apart) (omega (arith, rw e at (i k))))
    (λ n. rw (ne_eqb q k n) (on (eqb q (offerer ps))
    (λ x. rw (x, eqb-true q (offerer ps) x, o.0) (omega (arith, rw o.0 at (i (offerer ps)))))
    (λ x. rw x (omega (arith, i q, others_unconcerned ps (offerer ps) 1 2 o.1 o.0 m q (eqb-false q (offerer ps) x))))))

-- ---------- a move: what is owed before it is what it logs and what is owed after it

-- who stands at 5 or 6 is counted there
no_five : (ps : List ℕ) (k : ℕ) → get_or ps k 0 ≡ 5 → many at_second ps ≡ 0 → ⊥
no_five ps k e m = let z = rw e at (many_none at_second ps 0 refl m k) in clash (cc)

no_six : (ps : List ℕ) (k : ℕ) → get_or ps k 0 ≡ 6 → many at_store ps ≡ 0 → ⊥
no_six ps k e m = let z = rw e at (many_none at_store ps 0 refl m k) in clash (cc)

pub debt_move : (B F : ℕ → ℕ) (ps : List ℕ) (k : ℕ) (c : Control) (d : ℕ) (v : Bool) → let w = went (number c) d v in
    k < length ps → get_or ps k 0 ≡ number c → (c ≡ source.returned → ⊥) → Handshake d (many at_second ps) (many at_store ps)
    → ((q : ℕ) → B q ≡ F q + owes (control (get_or ps q 0)) d)
    → (q : ℕ) → B q ≡ in# (flip_of q) (flipped w.flips (offerer ps) k) (F q) + owes (control (get_or (set ps k w.place) q 0)) w.pending
debt_move B F ps k source.returned d v r e n h i = absurd (n refl)
debt_move B F ps k source.try_cancel_two_flips zero v r e n h i = quiet B F ps k source.try_cancel_two_flips r e 0 i 2 0 refl (λ q _. refl)
debt_move B F ps k source.try_cancel_two_flips (suc zero) v r e n h i = both B F ps k r e h.0 i
debt_move B F ps k source.try_cancel_two_flips (suc (suc zero)) v r e n h i = quiet B F ps k source.try_cancel_two_flips r e 2 i 2 2 refl (λ q _. refl)
debt_move B F ps k source.try_cancel_two_flips (suc (suc (suc d))) v r e n h i = absurd h
debt_move B F ps k source.try_simple_flip d true r e n h i = own B F ps k source.try_simple_flip r e d i refl
debt_move B F ps k source.try_simple_flip d false r e n h i = quiet B F ps k source.try_simple_flip r e d i 3 d refl (λ q _. refl)
debt_move B F ps k source.try_simple_flip_second d true r e n h i = quiet B F ps k source.try_simple_flip_second r e d i 4 d refl (λ q _. refl)
debt_move B F ps k source.try_simple_flip_second d false r e n h i = own B F ps k source.try_simple_flip_second r e d i refl
debt_move B F ps k source.try_handshake zero v r e n h i = quiet B F ps k source.try_handshake r e 0 i 5 1 refl (λ q _. none_concerned ps 0 1 h.0 q)
debt_move B F ps k source.try_handshake (suc zero) v r e n h i = quiet B F ps k source.try_handshake r e 1 i 1 1 refl (λ q _. refl)
debt_move B F ps k source.try_handshake (suc (suc zero)) v r e n h i = quiet B F ps k source.try_handshake r e 2 i 1 2 refl (λ q _. refl)
debt_move B F ps k source.try_handshake (suc (suc (suc d))) v r e n h i = absurd h
debt_move B F ps k source.try_handshake_second zero v r e n h i = absurd (no_five ps k e h.0)
debt_move B F ps k source.try_handshake_second (suc zero) v r e n h i =
    quiet B F ps k source.try_handshake_second r e 1 i 1 0 refl (others_unconcerned ps k 1 0 r e h.0)
debt_move B F ps k source.try_handshake_second (suc (suc zero)) v r e n h i = quiet B F ps k source.try_handshake_second r e 2 i 6 2 refl (λ q _. refl)
debt_move B F ps k source.try_handshake_second (suc (suc (suc d))) v r e n h i = absurd h
debt_move B F ps k source.try_handshake_store zero v r e n h i = absurd (no_six ps k e h.1)
debt_move B F ps k source.try_handshake_store (suc zero) v r e n h i = absurd (no_six ps k e h.1)
debt_move B F ps k source.try_handshake_store (suc (suc zero)) v r e n h i =
    let m : many at_second ps ≡ 0 = omega (arith, h, rw e at (many_set at_store ps k 0 0 r)) in
    quiet B F ps k source.try_handshake_store r e 2 i 0 0 refl (λ q _. none_concerned ps 2 0 m q)
debt_move B F ps k source.try_handshake_store (suc (suc (suc d))) v r e n h i = absurd h

-- ---------- and the value turns once for each flip that a move logs; two flips leave it as it was

pub shown_move : (v₀ : Bool) (n : ℕ) (c : Control) (d : ℕ) (v : Bool) (o k : ℕ) → let w = went (number c) d v in
    v ≡ turned n v₀ → w.value ≡ turned (in# any_flip (flipped w.flips o k) n) v₀
shown_move v₀ n source.returned d v o k e = e
shown_move v₀ n source.try_cancel_two_flips d v o k e = on (eqb d 1) (λ b. rw b (e ∙ sym (not-not (turned n v₀)))) (λ b. rw b e)
shown_move v₀ n source.try_simple_flip d true o k e = ap not e
shown_move v₀ n source.try_simple_flip d false o k e = e
shown_move v₀ n source.try_simple_flip_second d true o k e = e
shown_move v₀ n source.try_simple_flip_second d false o k e = ap not e
shown_move v₀ n source.try_handshake d v o k e = on (eqb d 0) (λ b. rw b e) (λ b. rw b e)
shown_move v₀ n source.try_handshake_second d v o k e = on (eqb d 1) (λ b. rw b e) (λ b. rw b e)
shown_move v₀ n source.try_handshake_store d v o k e = e
