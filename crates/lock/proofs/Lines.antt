-- The table of codes: dist_rwlock.rs goes on exactly where no line applies, below the limit, and the tests of a sound state tell the lines. Assumes nothing.
use Prim.Native.Nat.{ℕ, ◌≤◌}
use mathlib.Core.Path.{◌≡◌, refl, sym, ◌∙◌}
use mathlib.Core.Logic.{inl, inr}
use mathlib.Core.Option.{Option, none, some}
use native.Mathlib.Omega.{arith}
use lib.Dec.{ltb}
use borrow.Author.Tests.{eqb-true, eqb-false, ltb-true, ltb-false, not-true, not-false}
use Rattle.rows.proofs.Cases.{cannot, clash}
use Rattle.machine.specs.Codes as code
use Rattle.machine.specs.Sourced.{Clear, Applies}
use Rattle.machine.proofs.Known.{must_be, must_hold, one_held, there}
use Rattle.machine.proofs.Reasons.{Tells, telling}
use Rattle.schedule.specs.Limits as limit
use Rattle.schedule.specs.declared.steps.LockStep.{LockStep}
use Rattle.schedule.specs.declared.steps.LockStep.TheVariants.{ExcStart, ExcCheckCount, ExcFinish, ExcRelease, SharedStart, SharedFinish, SharedRelease}
use Rattle.lock.specs.Source as source
use Rattle.lock.specs.Source.{DistRwLock, Transition, Moves}
use Rattle.lock.specs.Invariants.{IsSome, Invariants}
use Rattle.lock.specs.Lock.{cell, tests}
use Rattle.lock.specs.Refined.{abs, label, lines, Sound}
use Rattle.lock.specs.declared.state.State.{State}
use Rattle.lock.proofs.Filtered.{carrying_none}
use Rattle.lock.proofs.Plain.{guards}

-- ---------- the source alone

module _ (a : DistRwLock) (i : Invariants a) where
  -- a cell in use has a count, and one with a count is in use
  counts : (r : ℕ) → (a.rc_width ≤ r → ⊥) → (n : ℕ) × (a.ref_counts r ≡ some n)
  counts r o = some_there (a.ref_counts r) (i.domain.inside r (omega arith))
    where
      some_there : (p : Option ℕ) → IsSome p → (n : ℕ) × (p ≡ some n)
      some_there none h = absurd h
      some_there (some n) h = (n, refl)

  within : (r n : ℕ) → a.ref_counts r ≡ some n → a.rc_width ≤ r → ⊥
  within r n e o = clash (cc (i.domain.outside r o))

  pub goes : (y : Transition) → Clear (lines a y) → (to : DistRwLock) × Moves a y to
  goes source.exc_start k = (_, record { require = cannot a.exc_locked k.0; update = refl })
  goes source.exc_check_count k =
      let p = must_hold a.exc_pending k.0 in
      let n = counts p.0 (λ o. k.1.0 (p.0, p.1, o)) in
      let z = must_be n.0 0 (λ h. k.1.1.0 (p.0, n.0, p.1, n.1, h)) in
      (_, record { r = p.0; removes = p.1; have = rw (← z) n.1; update = refl })
  goes source.exc_finish k =
      let p = must_hold a.exc_pending k.0 in
      let e = must_be p.0 a.rc_width (λ h. k.1.0 (p.0, p.1, h)) in
      (_, record { removes = rw (← e) p.1; update = refl })
  goes (source.exc_release t) k = (_, record { removes = (must_hold a.exc_guard k.0).1; update = refl })
  goes (source.shared_start r) k = let n = counts r k.0 in (_, record { rc = n.0; removes = n.1; update = refl })
  goes (source.shared_finish r) k =
      (_, record { require = cannot a.exc_locked k.1.0; removes = omega (arith, k.1.1.0); update = refl })
  goes (source.shared_release val) k =
      let n = counts val.0 k.0 in
      (_, record { rc = n.0; removes_guard = omega (arith, k.1.0); removes = n.1; update = refl })

  pub clear : (y : Transition) (to : DistRwLock) → Moves a y to → (Applies (lines a y) code.full → ⊥) → Clear (lines a y)
  clear source.exc_start to v b = (λ e. clash (cc v.require), tt)
  clear source.exc_check_count to v b = (
    λ e. clash (cc v.removes),
    (
      λ w. within v.r 0 v.have (rw (one_held v.removes w.1) w.2),
      (λ w. w.4 (one_held w.3 (rw (← one_held v.removes w.2) v.have)), tt),
    ),
  )
  clear source.exc_finish to v b = (λ e. clash (cc v.removes), (λ w. w.2 (one_held w.1 v.removes), tt))
  clear (source.exc_release t) to v b = (λ e. clash (cc v.removes), tt)
  clear (source.shared_start r) to v b = (within r v.rc v.removes, (λ w. b (inr (inl (refl, w))), tt))
  clear (source.shared_finish r) to v b =
      (λ o. omega (arith, i.pending_range r v.removes), (λ e. clash (cc v.require), (λ z. omega (arith, v.removes), tt)))
  clear (source.shared_release val) to v b = (within val.0 v.rc v.removes, (λ z. omega (arith, v.removes_guard), tt))

-- ---------- the tests of a sound state tell the lines

pub tells : (s : State) (x : LockStep) → Sound s → Tells (lines (abs s) (label x)) (tests s x)
tells s ExcStart k = let l = s.head.locked in telling (not-false l) (λ e q. clash (cc (not-true l e))) (λ e. tt)
tells s ExcCheckCount k =
    let h = s.head in
    let c = h.cursor in
    let n = (cell s c).count in
    telling (λ e. rw e) (λ p q. clash (cc)) (λ p.
    telling (λ e. (c, rw p, ltb-false c h.width e))
    (λ l w. omega (arith, ltb-true c h.width l, (there h.pending c w.0 w.1).1, w.2)) (λ l.
    telling (λ e. (c, n, rw p, rw l, eqb-false n 0 e))
    (λ e w. w.4 (sym (there (ltb c h.width) n w.1 (rw (there h.pending c w.0 w.2).1 w.3)).1 ∙ eqb-true n 0 e)) (λ e. tt)))
tells s ExcFinish k =
    let h = s.head in
    let c = h.cursor in
    telling (λ e. rw e) (λ p q. clash (cc)) (λ p.
    telling (λ e. (c, rw p, eqb-false c h.width e)) (λ e w. w.2 (sym (there h.pending c w.0 w.1).1 ∙ eqb-true c h.width e)) (λ e. tt))
tells s (ExcRelease t) k = telling (λ e. rw e) (λ p q. clash (cc)) (λ e. tt)
tells s (SharedStart r) k =
    let w = s.head.width in
    let n = (cell s r).count in
    telling (ltb-false r w) (λ l o. omega (arith, ltb-true r w l)) (λ l.
    telling (λ e. let q : n ≡ limit.counter = omega (arith, ltb-false n limit.counter e, k.counts r) in rw (l, q))
    (λ e f. omega (arith, ltb-true n limit.counter e, (there (ltb r w) n limit.counter f).1)) (λ e. tt))
tells s (SharedFinish r) k =
    let w = s.head.width in
    let l = s.head.locked in
    let n = (cell s r).pending in
    telling (ltb-false r w) (λ e o. omega (arith, ltb-true r w e)) (λ e.
    telling (not-false l) (λ e q. clash (cc (not-true l e))) (λ e.
    telling (λ e. omega (arith, ltb-false 0 n e)) (λ e z. omega (arith, ltb-true 0 n e)) (λ e. tt)))
tells s (SharedRelease r t) k =
    let w = s.head.width in
    let n = (cell s r).guards in
    telling (ltb-false r w) (λ l o. omega (arith, ltb-true r w l)) (λ l. (
      λ e. carrying_none s.head.t (guards s.cells) r t (omega (arith, ltb-false 0 n e)),
      λ h. (
        λ e. must_be ((abs s).shared_guard (r, t)) 0 (λ z. clash (cc (k.inv.agree r t (omega arith)))),
        λ o.
            telling (λ e. rw e) (λ e z. omega (arith, ltb-true 0 n h, rw e at z)) (λ e. tt),
      ),
    ))
