-- How a state stands for the source's, and what is proved of the two: proofs/Refines.antt. Assumes nothing.
use Rattle.std.specs.Prelude.{ℕ, ◌≤◌, ◌≡◌, true, false, cond, List, [], ◌∷◌, eqb, ltb, length}
use Rattle.std.proofs.Math.Option.{none, some}
use Rattle.machine.specs.Codes as code
use Rattle.machine.specs.Sourced.{Line, line, Sourced, Inductive, Complete, Upholds}
use Rattle.schedule.specs.Limits as limit
use Rattle.schedule.specs.declared.steps.LockStep.{LockStep}
use Rattle.schedule.specs.declared.steps.LockStep.TheVariants.{ExcStart, ExcCheckCount, ExcFinish, ExcRelease, SharedStart, SharedFinish, SharedRelease}
use Rattle.lock.specs.Source as source
use Rattle.lock.specs.Source.{DistRwLock, Initialize, Transition, Moves, Safe}
use Rattle.lock.specs.Invariants.{Invariants, New, do_guard}
use Rattle.lock.specs.Lock.{lock, zero_cell, fresh_state, cell}
use Rattle.lock.specs.Sound.{sound}
use Rattle.lock.specs.declared.state.State.{State}
use Rattle.lock.specs.declared.entry.Entry.{Entry}
use Rattle.lock.specs.declared.entry.Entry.TheVariants.{Withdrawn, Granted}

-- all guards carry the record in store, so a cell's guards are a count
abbrev pub abs : State → DistRwLock
abs s =
    record {
      rc_width = s.head.width;
      storage = cond s.head.stored (some s.head.t) none;
      exc_locked = s.head.locked;
      ref_counts = λ i. cond (ltb i s.head.width) (some (cell s i).count) none;
      exc_pending = cond s.head.pending (some s.head.cursor) none;
      exc_guard = cond s.head.guard (some tt) none;
      shared_pending = λ r. (cell s r).pending;
      shared_guard = λ v. cond (eqb v.1 s.head.t) (cell s v.0).guards 0;
    }

abbrev pub label : LockStep → Transition
label ExcStart = source.exc_start
label ExcCheckCount = source.exc_check_count
label ExcFinish = source.exc_finish
label (ExcRelease t) = source.exc_release t
label (SharedStart r) = source.shared_start r
label (SharedFinish r) = source.shared_finish r
label (SharedRelease r t) = source.shared_release (r, t)

-- ---------- soundness: the source's invariants, the limits, unused entries zero

pub record Sound (s : State) : Type 0 where
  pub inv : Invariants (abs s)
  -- the row is whole, the width and the counts are in their limits
  pub whole : length s.cells ≡ limit.width
  pub few : s.head.width ≤ limit.width
  pub counts : (r : ℕ) → (cell s r).count ≤ limit.counter
  -- a cell that is not in use, the record while none is stored, the cursor while no writer is pending
  pub unused_cells : (r : ℕ) → s.head.width ≤ r → cell s r ≡ zero_cell
  pub unused_record : s.head.stored ≡ false → s.head.t ≡ 0
  pub unused_cursor : s.head.pending ≡ false → s.head.cursor ≡ 0

-- ---------- the scope's table of codes, said of dist_rwlock.rs

abbrev pub lines : DistRwLock → Transition → List Line
lines a source.exc_start = line code.phase (a.exc_locked ≡ true) ∷ []
lines a source.exc_check_count =
    line code.phase (a.exc_pending ≡ none)
    ∷ line code.cursor ((r : ℕ) × (a.exc_pending ≡ some r) × (a.rc_width ≤ r))
    ∷ line code.count ((r count : ℕ) × (a.exc_pending ≡ some r) × (a.ref_counts r ≡ some count) × (count ≡ 0 → ⊥)) ∷ []
lines a source.exc_finish =
    line code.phase (a.exc_pending ≡ none) ∷ line code.cursor ((r : ℕ) × (a.exc_pending ≡ some r) × (r ≡ a.rc_width → ⊥)) ∷ []
lines a (source.exc_release t) = line code.phase (a.exc_guard ≡ none) ∷ []
lines a (source.shared_start r) = line code.outside (a.rc_width ≤ r) ∷ line code.full (a.ref_counts r ≡ some limit.counter) ∷ []
lines a (source.shared_finish r) =
    line code.outside (a.rc_width ≤ r) ∷ line code.phase (a.exc_locked ≡ true) ∷ line code.missing (a.shared_pending r ≡ 0) ∷ []
lines a (source.shared_release val) = line code.outside (a.rc_width ≤ val.0) ∷ line code.missing (a.shared_guard val ≡ 0) ∷ []

-- what the source hands out: exc_finish the record that it withdraws, shared_finish a guard with the record in store
abbrev pub HandsOut : DistRwLock → Transition → List Entry → Type 0
HandsOut pre source.exc_start es = es ≡ []
HandsOut pre source.exc_check_count es = es ≡ []
HandsOut pre source.exc_finish es = (t : ℕ) × (pre.storage ≡ some t) × (es ≡ Withdrawn t ∷ [])
HandsOut pre (source.exc_release t) es = es ≡ []
HandsOut pre (source.shared_start r) es = es ≡ []
HandsOut pre (source.shared_finish r) es = (t : ℕ) × (pre.storage ≡ some t) × (es ≡ Granted r t ∷ [])
HandsOut pre (source.shared_release val) es = es ≡ []

-- the machine beside dist_rwlock.rs: `Enabled`, `Route` and `Exact` of machine/specs/Sourced.antt are said of it
abbrev pub dist_rw_lock : Sourced lock
dist_rw_lock =
    record {
      Source = DistRwLock;
      Transition = Transition;
      Moves = Moves;
      Safe = Safe;
      HandsOut = HandsOut;
      lines = lines;
      abs = abs;
      label = label;
    }

-- ---------- what is proved

pub record Refines : Type 0 where
  -- a fresh lock of any width in its limits is the source's, with width and record tied to what was asked, and sound
  pub fresh_initialize : (w t : ℕ) → 1 ≤ w → w ≤ limit.width → Initialize w t (abs (fresh_state w t))
  pub fresh_new : (w t : ℕ) → 1 ≤ w → w ≤ limit.width → New w t (abs (fresh_state w t))
  pub fresh_sound : (w t : ℕ) → 1 ≤ w → w ≤ limit.width → sound (fresh_state w t) ≡ true
  -- the test is the record, where the row is whole, as every row of the code is
  pub sound_means : (s : State) → length s.cells ≡ limit.width → sound s ≡ true → Sound s
  pub means_sound : (s : State) → Sound s → sound s ≡ true
  -- of a sound state: a step is accepted exactly when it is enabled, and then does what the source says and leaves a sound state
  pub upholds : Upholds dist_rw_lock Sound
  -- the source's own proofs, over all of its states: it starts with its invariants, and its transitions keep them
  pub initial : (w t : ℕ) (post : DistRwLock) → Initialize w t post → Invariants post
  pub inductive : Inductive dist_rw_lock Invariants
  -- its table: a transition leads somewhere, below the limit, exactly if no line applies
  pub complete : Complete dist_rw_lock Invariants
  -- the source's property follows from its invariants: a guard's value is the stored one
  pub guards_stored : (m : DistRwLock) → Invariants m → do_guard m
