-- The accepted histories of the lock are those whose steps could come each in its place, by counts of what came before, and show what they must;
-- so every history from a fresh lock meets the demand. Assumes nothing.
use Prim.Native.Nat.{ℕ, ◌<◌}
use mathlib.Core.Path.{◌≡◌, sym, ◌∙◌}
use mathlib.Core.Bool.{Bool, true, not}
use mathlib.Core.List.{List}
use native.Mathlib.Omega.{arith}
use lib.Dec.{ltb}
use borrow.Author.Tests.{eqb-true, eq-eqb, ltb-true, lt-ltb, not-true}
use Rattle.rows.specs.Walk.{bit}
use Rattle.rows.proofs.Cases.{on}
use Rattle.machine.specs.Machine.{Accepted}
use Rattle.machine.proofs.Runs.{exact}
use Rattle.schedule.specs.Limits as limit
use Rattle.schedule.specs.declared.steps.LockStep.{LockStep}
use Rattle.schedule.specs.declared.steps.LockStep.TheVariants.{ExcStart, ExcCheckCount, ExcFinish, ExcRelease, SharedStart, SharedFinish, SharedRelease}
use Rattle.lock.specs.Lock.{lock, fresh_state, cell, logs}
use Rattle.lock.specs.Demand.{Hist, in_force, Stands, At, Could, CouldAt, Demanded, Exactly}
use Rattle.lock.specs.declared.state.State.{State}
use Rattle.lock.specs.declared.entry.Entry.{Entry}
use Rattle.lock.proofs.Filtered.{stands}
use Rattle.lock.proofs.Phases.{stored_or_held}
use Rattle.lock.proofs.Plain.{guards}
use Rattle.lock.proofs.Demands.{Inv, run_inv, width_run, shows, guards_throughout}

-- a flag by its number
is_set : (b : Bool) → 0 < bit b → b ≡ true
is_set b e = on b (λ t. t) (λ f. absurd (omega (arith, rw f at e)))

is_clear : (b : Bool) → bit b ≡ 0 → not b ≡ true
is_clear b e = on b (λ t. absurd (omega (arith, rw t at e))) (λ f. rw f)

module _ (w t₀ : ℕ) (h : Hist) (s : State) (i : Inv t₀ h s) (e : s.head.width ≡ w) where
  at_cursor : Stands w h s.head.cursor
  at_cursor = rw e at i.walked

  could : (x : LockStep) → Accepted lock s x → Could w h x
  could ExcStart a = omega (arith, rw (not-true s.head.locked a.0) at i.under_way)
  could ExcCheckCount a = (
    s.head.cursor,
    omega (arith, rw a.0 at i.pending),
    omega (arith, e, ltb-true, a.1.0),
    at_cursor,
    omega (arith, eqb-true, a.1.1.0, i.cells s.head.cursor),
  )
  could ExcFinish a = (omega (arith, rw a.0 at i.pending), rw (eqb-true s.head.cursor s.head.width a.1.0 ∙ e) at at_cursor)
  could (ExcRelease t) a = omega (arith, rw a.0 at i.writers)
  could (SharedStart r) a = (omega (arith, e, ltb-true, a.0), omega (arith, ltb-true, a.1.0, i.cells r))
  could (SharedFinish r) a = (
    omega (arith, e, ltb-true, a.0),
    omega (arith, rw (not-true s.head.locked a.1.0) at i.under_way),
    omega (arith, ltb-true, a.1.1.0, i.announced r),
  )
  could (SharedRelease r t) a = (omega (arith, e, ltb-true, a.0), (shows t₀ h s (SharedRelease r t) i a).1)

  in_use : (r : ℕ) → r < w → ltb r s.head.width ≡ true
  in_use r l = lt-ltb r s.head.width (omega (arith, e))

  -- where a reader guard stands, no writer has the record
  stored_at : (r : ℕ) → 0 < (cell s r).guards → s.head.stored ≡ true
  stored_at r l = on s.head.stored (λ b. b)
      (λ b. absurd (omega (arith, (i.plain.cells r).clear (rw (sym (stored_or_held i.plain.phase), b)))))

  accepted : (x : LockStep) → Could w h x → Accepted lock s x
  accepted ExcStart c = (is_clear s.head.locked (omega (arith, i.under_way)), tt)
  accepted ExcCheckCount c =
      let q : s.head.cursor ≡ c.0 = omega (arith, at_cursor, c.3) in (
        is_set s.head.pending (omega (arith, i.pending, c.1)),
        (
          lt-ltb s.head.cursor s.head.width (omega (arith, e, c.2)),
          (eq-eqb (cell s s.head.cursor).count 0 (rw q (omega (arith, i.cells c.0, c.4))), tt),
        ),
      )
  accepted ExcFinish c =
      (is_set s.head.pending (omega (arith, i.pending, c.0)), (eq-eqb s.head.cursor s.head.width (omega (arith, e, at_cursor, c.1)), tt))
  accepted (ExcRelease t) c = (is_set s.head.guard (omega (arith, i.writers)), tt)
  accepted (SharedStart r) c = (in_use r c.0, (lt-ltb (cell s r).count limit.counter (omega (arith, i.cells r, c.1)), tt))
  accepted (SharedFinish r) c = (
    in_use r c.0,
    (
      is_clear s.head.locked (omega (arith, i.under_way, c.1)),
      (lt-ltb 0 (cell s r).pending (omega (arith, i.announced r, c.2)), tt),
    ),
  )
  accepted (SharedRelease r t) c =
      let k = stands (in_force t₀ h) (guards s.cells) r t (omega (arith, i.readers r t, c.1)) in
      let o = stored_at r k.1 in
      (in_use r c.0, (lt-ltb 0 (cell s r).guards k.1, (o, (eq-eqb t s.head.t (k.0 ∙ sym (i.store o)), tt))))

-- a step's log is told by what it must show
one_log : (t₀ : ℕ) (h : Hist) (x : LockStep) (k l : List Entry) → At t₀ h x k → At t₀ h x l → k ≡ l
one_log t₀ h ExcStart k l p q = p ∙ sym q
one_log t₀ h ExcCheckCount k l p q = p ∙ sym q
one_log t₀ h ExcFinish k l p q = p.withdrawn ∙ sym q.withdrawn
one_log t₀ h (ExcRelease t) k l p q = p.0 ∙ sym q.0
one_log t₀ h (SharedStart r) k l p q = p ∙ sym q
one_log t₀ h (SharedFinish r) k l p q = p.granted ∙ sym q.granted
one_log t₀ h (SharedRelease r t) k l p q = p.0 ∙ sym q.0

pub exactly : Exactly
exactly w t₀ low high = exact lock (fresh_state w t₀) (λ h s. Inv t₀ h s × (s.head.width ≡ w)) (CouldAt w t₀)
    (λ h s r. (run_inv w t₀ low high r, width_run w t₀ r))
    (λ h s x i a. (could w t₀ h s i.0 i.1 x a, shows t₀ h s x i.0 a))
    (λ h s x l i p. let a = accepted w t₀ h s i.0 i.1 x p.0 in (a, one_log t₀ h x l (logs s x) p.1 (shows t₀ h s x i.0 a)))

pub demanded : Demanded
demanded w t₀ low high h s r = record { steps = (exactly w t₀ low high h).0 (s, r); guards = guards_throughout w t₀ low high r }
