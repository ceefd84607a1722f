-- What an accepted step does in the source: where it leads, to no other state, and what it hands out, nothing else. Assumes nothing.
use Prim.Native.Nat.{ℕ}
use mathlib.Core.Path.{◌≡◌, refl, sym, ◌∙◌, ap}
use mathlib.Core.Bool.{true}
use mathlib.Core.List.{List}
use mathlib.Core.Option.{get_or}
use native.Mathlib.Omega.{arith}
use lib.Dec.{eqb, ltb}
use borrow.Author.Tests.{eqb-true, ltb-true, not-true}
use Rattle.rows.proofs.Cases.{on}
use Rattle.rows.proofs.Row.{row}
use Rattle.machine.specs.Map.{at_key}
use Rattle.machine.specs.Machine.{Accepted}
use Rattle.machine.proofs.Known.{one_held}
use Rattle.machine.proofs.Multisets.{only}
use Rattle.schedule.specs.declared.steps.LockStep.{LockStep}
use Rattle.schedule.specs.declared.steps.LockStep.TheVariants.{ExcStart, ExcCheckCount, ExcFinish, ExcRelease, SharedStart, SharedFinish, SharedRelease}
use Rattle.lock.specs.Source as source
use Rattle.lock.specs.Source.{DistRwLock, Transition, Moves}
use Rattle.lock.specs.Lock.{lock, zero_cell, cell, with_cell, next, logs}
use Rattle.lock.specs.Refined.{abs, label, Sound, HandsOut}
use Rattle.lock.specs.declared.state.Cell.{Cell}
use Rattle.lock.specs.declared.state.State.{State}
use Rattle.lock.specs.declared.entry.Entry.{Entry}
use Rattle.lock.proofs.Filtered.{carrying_none, carrying_more, carrying_less}
use Rattle.lock.proofs.Phases.{unlocked_away, checking_stored}
use Rattle.lock.proofs.Plain.{guards, Plain}
use Rattle.lock.proofs.Upheld.{same_readers}
use Rattle.lock.proofs.Sounds.{sound_plain}
use Rattle.lock.proofs.Changed.{in_row, at_start, at_finish, at_release}
use Rattle.lock.proofs.Kept.{plain_next}

module _ (s : State) (p : Plain s) where
  -- ---------- the writer's steps. Where the record in store changes no guard stands, so that the guards are none of either record

  no_guards : (t u : ℕ) → ((r : ℕ) → guards s.cells r ≡ 0) → (v : ℕ × ℕ) → only t (guards s.cells v.0) v.1 ≡ only u (guards s.cells v.0) v.1
  no_guards t u z v = carrying_none t (guards s.cells) v.0 v.1 (z v.0) ∙ sym (carrying_none u (guards s.cells) v.0 v.1 (z v.0))

  exc_start : Accepted lock s ExcStart → source.ExcStart (abs s) (abs (next s ExcStart))
  exc_start a = record { require = not-true s.head.locked a.0; update = refl }

  exc_check_count : Accepted lock s ExcCheckCount → source.ExcCheckCount (abs s) (abs (next s ExcCheckCount))
  exc_check_count a =
      record {
        r = s.head.cursor;
        removes = rw a.0;
        have = rw (a.1.0, eqb-true (cell s s.head.cursor).count 0 a.1.1.0);
        update = rw a.0;
      }

  exc_finish : Accepted lock s ExcFinish → source.ExcFinish (abs s) (abs (next s ExcFinish))
  exc_finish a =
      record {
        removes = rw (a.0, eqb-true s.head.cursor s.head.width a.1.0);
        update = same_readers (abs (next s ExcFinish)) (λ i. refl) (λ r. refl)
            (no_guards 0 s.head.t (λ r. ((plain_next s ExcFinish p a).cells r).clear refl));
      }

  exc_release : (t : ℕ) → Accepted lock s (ExcRelease t) → source.ExcRelease (abs s) t (abs (next s (ExcRelease t)))
  exc_release t a =
      record {
        removes = rw a.0;
        update = same_readers (abs (next s (ExcRelease t))) (λ i. refl) (λ r. refl)
            (no_guards t s.head.t (λ r. (p.cells r).clear (rw a.0)));
      }

  -- ---------- the readers' steps

  -- the map with the new count at r
  counts_at : (r : ℕ) (c : Cell) → ltb r s.head.width ≡ true → (i : ℕ)
      → (abs (with_cell s r c)).ref_counts i ≡ at_key r c.count (abs s).ref_counts i
  counts_at r c l i =
      rw (row s.cells r i c zero_cell (in_row s r p l))
      (on (eqb i r) (λ b. rw (b, eqb-true i r b, l)) (λ b. rw b))

  shared_start : (r : ℕ) → Accepted lock s (SharedStart r) → source.SharedStart (abs s) r (abs (next s (SharedStart r)))
  shared_start r a =
      let f = at_start s r (in_row s r p a.0) in
      record {
        rc = (cell s r).count;
        removes = rw a.0;
        update = same_readers (abs s) (counts_at r _ a.0) (λ q. (f q).1) (λ v. ap (λ (n : ℕ). only s.head.t n v.1) (f v.0).2);
      }

  shared_finish : (r : ℕ) → Accepted lock s (SharedFinish r) → source.SharedFinish (abs s) r (abs (next s (SharedFinish r)))
  shared_finish r a =
      let f = at_finish s r (in_row s r p a.0) (ltb-true 0 (cell s r).pending a.1.1.0) in
      let e = not-true s.head.locked a.1.0 in
      let t : get_or (abs s).storage 0 ≡ s.head.t = rw (unlocked_away p.phase e).0 in
      record {
        require = e;
        removes = ltb-true 0 (cell s r).pending a.1.1.0;
        update = same_readers (abs s) (λ i. rw (f i).0) (λ q. omega (arith, (f q).1))
            (λ v. rw t (carrying_more s.head.t r (guards s.cells) (guards (next s (SharedFinish r)).cells) (λ q. (f q).2) v));
      }

  shared_release : (r t : ℕ) → Accepted lock s (SharedRelease r t) → source.SharedRelease (abs s) (r, t) (abs (next s (SharedRelease r t)))
  shared_release r t a =
      let g = ltb-true 0 (cell s r).guards a.1.0 in
      let f = at_release s r (in_row s r p a.0) t g (p.cells r).counted in
      record {
        rc = (cell s r).count;
        removes_guard = rw a.1.1.1.0 g;
        removes = rw a.0;
        update = rw (eqb-true t s.head.t a.1.1.1.0)
            (same_readers (abs s) (counts_at r _ a.0) (λ q. (f q).1)
            (carrying_less s.head.t r (guards s.cells) (guards (next s (SharedRelease r t)).cells) (λ q. (f q).2)));
      }

-- ---------- every step

plain_moves : (s : State) (x : LockStep) → Plain s → Accepted lock s x → Moves (abs s) (label x) (abs (next s x))
plain_moves s ExcStart p a = exc_start s p a
plain_moves s ExcCheckCount p a = exc_check_count s p a
plain_moves s ExcFinish p a = exc_finish s p a
plain_moves s (ExcRelease t) p a = exc_release s p t a
plain_moves s (SharedStart r) p a = shared_start s p r a
plain_moves s (SharedFinish r) p a = shared_finish s p r a
plain_moves s (SharedRelease r t) p a = shared_release s p r t a

-- ---------- a transition has one state after it

pub moves_one : (l : Transition) (m p q : DistRwLock) → Moves m l p → Moves m l q → p ≡ q
moves_one source.exc_start m p q v w = v.update ∙ sym w.update
moves_one source.exc_check_count m p q v w = rw (v.update, w.update, one_held v.removes w.removes)
moves_one source.exc_finish m p q v w = v.update ∙ sym w.update
moves_one (source.exc_release t) m p q v w = v.update ∙ sym w.update
moves_one (source.shared_start r) m p q v w = rw (v.update, w.update, one_held v.removes w.removes)
moves_one (source.shared_finish r) m p q v w = v.update ∙ sym w.update
moves_one (source.shared_release val) m p q v w = rw (v.update, w.update, one_held v.removes w.removes)

pub accepted_moves : (s : State) (x : LockStep) → Sound s → Accepted lock s x → Moves (abs s) (label x) (abs (next s x))
accepted_moves s x k a = plain_moves s x (sound_plain s k) a

-- ---------- the log is what the source hands out

pub accepted_logs : (s : State) (x : LockStep) → Sound s → Accepted lock s x → HandsOut (abs s) (label x) (logs s x)
accepted_logs s ExcStart k a = refl
accepted_logs s ExcCheckCount k a = refl
accepted_logs s ExcFinish k a = (s.head.t, rw (checking_stored (sound_plain s k).phase a.0).0, refl)
accepted_logs s (ExcRelease t) k a = refl
accepted_logs s (SharedStart r) k a = refl
accepted_logs s (SharedFinish r) k a =
    (s.head.t, rw (unlocked_away (sound_plain s k).phase (not-true s.head.locked a.1.0)).0, refl)
accepted_logs s (SharedRelease r t) k a = refl

-- and it hands out nothing else
pub hands_one : (y : Transition) (m : DistRwLock) (es fs : List Entry) → HandsOut m y es → HandsOut m y fs → es ≡ fs
hands_one source.exc_start m es fs p q = p ∙ sym q
hands_one source.exc_check_count m es fs p q = p ∙ sym q
hands_one source.exc_finish m es fs p q = rw (p.2, q.2, one_held p.1 q.1)
hands_one (source.exc_release t) m es fs p q = p ∙ sym q
hands_one (source.shared_start r) m es fs p q = p ∙ sym q
hands_one (source.shared_finish r) m es fs p q = rw (p.2, q.2, one_held p.1 q.1)
hands_one (source.shared_release val) m es fs p q = p ∙ sym q
