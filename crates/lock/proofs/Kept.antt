-- Accepted steps keep soundness: the writer goes from away to checking, to holding the guard, to away, and each cell stays plain. Assumes nothing.
use Prim.Native.Nat.{ℕ, ◌+◌, ◌<◌}
use mathlib.Core.Path.{◌≡◌, refl, ap}
use mathlib.Core.Bool.{true, false}
use mathlib.Core.List.{List}
use native.Mathlib.Omega.{arith}
use lib.Dec.{eqb, ltb}
use lib.ListN.{length-set}
use borrow.Author.Tests.{eqb-true, eqb-false, ltb-true, ltb-false, lt-ltb, not-true}
use Rattle.rows.proofs.Cases.{on, clash}
use Rattle.rows.proofs.Row.{row_case}
use Rattle.machine.specs.Machine.{Accepted}
use Rattle.schedule.specs.Limits as limit
use Rattle.schedule.specs.declared.steps.LockStep.{LockStep}
use Rattle.schedule.specs.declared.steps.LockStep.TheVariants.{ExcStart, ExcCheckCount, ExcFinish, ExcRelease, SharedStart, SharedFinish, SharedRelease}
use Rattle.lock.specs.Lock.{lock, zero_cell, cell, with_head, with_cell, shared_started, shared_finished, shared_released, next}
use Rattle.lock.specs.Sound.{must_be_clear}
use Rattle.lock.specs.Refined.{Sound}
use Rattle.lock.specs.declared.state.Cell.{Cell}
use Rattle.lock.specs.declared.state.Head.{Head}
use Rattle.lock.specs.declared.state.State.{State}
use Rattle.lock.proofs.Phases.{checking_head, Phase, away, checking, holding, unlocked_away}
use Rattle.lock.proofs.Plain.{PlainCell, PlainCells, guards, Plain}
use Rattle.lock.proofs.Sounds.{state, plain_sound, sound_plain}
use Rattle.lock.proofs.Changed.{in_row}

-- ---------- the writer's steps: where it is after them, and that no guard stands where it has checked

abbrev Standing : Head → List Cell → Type 0
Standing h cs = Phase h × ((r : ℕ) → must_be_clear h r ≡ true → guards cs r ≡ 0)

module _ (cs : List Cell) where
  -- it has checked no cell yet
  exc_start_stands : {h : Head} → Phase h → Accepted lock (state h cs) ExcStart → Standing (next (state h cs) ExcStart).head cs
  exc_start_stands (away t w) a = (checking t w 0 (omega arith), λ r m. absurd (omega (arith, ltb-true, m)))
  exc_start_stands (checking t w c l) a = clash (cc a.0)
  exc_start_stands (holding w) a = clash (cc a.0)

  -- the cell at its cursor counts nobody, so no guard
  exc_check_count_stands : {h : Head} → Phase h → PlainCells h cs → Accepted lock (state h cs) ExcCheckCount → Standing (next (state h cs) ExcCheckCount).head cs
  exc_check_count_stands (away t w) p a = clash (cc a.0)
  exc_check_count_stands (holding w) p a = clash (cc a.0)
  exc_check_count_stands (checking t w c l) p a = (checking t w (c + 1) (omega (arith, ltb-true, a.1.0)), clear)
    where
      clear : (r : ℕ) → ltb r (c + 1) ≡ true → guards cs r ≡ 0
      clear r m = on (eqb r c)
          (λ b. rw (eqb-true r c b) (omega (arith, eqb-true, a.1.1.0, (p c).counted)))
          (λ b. (p r).clear (lt-ltb r c (omega (arith, ltb-true, m, eqb-false r c b))))

  -- it has checked every cell in use, and the others are zero
  exc_finish_stands : {h : Head} → Phase h → PlainCells h cs → Accepted lock (state h cs) ExcFinish → Standing (next (state h cs) ExcFinish).head cs
  exc_finish_stands (away t w) p a = clash (cc a.0)
  exc_finish_stands (holding w) p a = clash (cc a.0)
  exc_finish_stands (checking t w c l) p a = (holding w, clear)
    where
      clear : (r : ℕ) → must_be_clear (next (state (checking_head t w c) cs) ExcFinish).head r ≡ true → guards cs r ≡ 0
      clear r m = on (ltb r w)
          (λ b. (p r).clear (rw (eqb-true c w a.1.0) b))
          (λ b. ap (λ (k : Cell). k.guards) ((p r).unused (ltb-false r w b)))

  exc_release_stands : {h : Head} (t : ℕ) → Phase h → Accepted lock (state h cs) (ExcRelease t) → Standing (next (state h cs) (ExcRelease t)).head cs
  exc_release_stands u (away t w) a = clash (cc a.0)
  exc_release_stands u (checking t w c l) a = clash (cc a.0)
  exc_release_stands u (holding w) a = (away u w, λ r m. clash (cc))

-- the width stays, and with it what is in use
head_kept : (s : State) (h : Head) → Plain s → h.width ≡ s.head.width → Standing h s.cells → Plain (with_head s h)
head_kept s h p e w =
    record {
      whole = p.whole;
      low = rw e p.low;
      high = rw e p.high;
      phase = w.0;
      cells = λ r. let c = p.cells r in record { small = c.small; counted = c.counted; unused = rw e c.unused; clear = w.1 r };
    }

-- ---------- the readers' steps: the cell that they change stays plain

module _ (h : Head) (r : ℕ) (c : Cell) (p : PlainCell h r c) (l : r < h.width) where
  -- one more is counted, and pending
  shared_start_plain : ltb c.count limit.counter ≡ true → PlainCell h r (shared_started c)
  shared_start_plain b =
      record {
        small = omega (arith, ltb-true, b);
        counted = omega (arith, p.counted);
        unused = λ u. absurd (omega arith);
        clear = p.clear;
      }

  -- a guard comes only where guards may stand
  shared_finish_plain : must_be_clear h r ≡ false → ltb 0 c.pending ≡ true → PlainCell h r (shared_finished c)
  shared_finish_plain f b =
      record {
        small = p.small;
        counted = omega (arith, p.counted, ltb-true, b);
        unused = λ u. absurd (omega arith);
        clear = λ m. clash (cc);
      }

  -- a guard goes, and with it one of the count
  shared_release_plain : ltb 0 c.guards ≡ true → PlainCell h r (shared_released c)
  shared_release_plain b =
      record {
        small = omega (arith, p.small);
        counted = omega (arith, p.counted, ltb-true, b);
        unused = λ u. absurd (omega arith);
        clear = λ m. omega (arith, p.clear m);
      }

cell_kept : (s : State) (r : ℕ) (c : Cell) → Plain s → ltb r s.head.width ≡ true → PlainCell s.head r c → Plain (with_cell s r c)
cell_kept s r c p b k =
    record {
      whole = rw length-set p.whole;
      low = p.low;
      high = p.high;
      phase = p.phase;
      cells = λ q. row_case (PlainCell s.head q) s.cells r q c zero_cell (in_row s r p b) (λ e. rw e k) (λ n. p.cells q);
    }

-- ---------- every step

pub plain_next : (s : State) (x : LockStep) → Plain s → Accepted lock s x → Plain (next s x)
plain_next s ExcStart p a = head_kept s _ p refl (exc_start_stands s.cells p.phase a)
plain_next s ExcCheckCount p a = head_kept s _ p refl (exc_check_count_stands s.cells p.phase p.cells a)
plain_next s ExcFinish p a = head_kept s _ p refl (exc_finish_stands s.cells p.phase p.cells a)
plain_next s (ExcRelease t) p a = head_kept s _ p refl (exc_release_stands s.cells t p.phase a)
plain_next s (SharedStart r) p a =
    cell_kept s r _ p a.0 (shared_start_plain s.head r (cell s r) (p.cells r) (ltb-true r s.head.width a.0) a.1.0)
plain_next s (SharedFinish r) p a =
    let u = unlocked_away p.phase (not-true s.head.locked a.1.0) in
    cell_kept s r _ p a.0 (shared_finish_plain s.head r (cell s r) (p.cells r) (ltb-true r s.head.width a.0) (rw (u.2, u.1)) a.1.1.0)
plain_next s (SharedRelease r t) p a =
    cell_kept s r _ p a.0 (shared_release_plain s.head r (cell s r) (p.cells r) (ltb-true r s.head.width a.0) a.1.0)

pub accepted_sound : (s : State) (x : LockStep) → Sound s → Accepted lock s x → Sound (next s x)
accepted_sound s x k a = plain_sound (next s x) (plain_next s x (sound_plain s k) a)
