-- dist_rwlock.rs, DistRwLock<T>, transcribed with numbers for T: its fields, `initialize`, its seven transitions and what they deposit and
-- withdraw, under their own names. The invariants and `do_guard` are in specs/Invariants.antt. A map is a function to options, a multiset a
-- function to counts. A transition is a record with the variables that a `let` binds, a field for each `require`, `have` and for what a `remove`
-- needs, and the state after as one equation. Assumes nothing.
use Rattle.std.specs.Prelude.{ℕ, ◌+◌, ◌-◌, ◌≤◌, ◌<◌, ◌≡◌, Bool, true, false, cond, ◌&&◌, eqb, ltb}
use Rattle.std.proofs.Math.Option.{Option, none, some, get_or}
use Rattle.machine.specs.Map.{Map, at_key}
use Rattle.machine.specs.Multiset.{Multiset, empty, insert, remove}

pub record DistRwLock : Type 0 where
  pub rc_width : ℕ
  pub storage : Option ℕ
  pub exc_locked : Bool
  pub ref_counts : Map ℕ
  pub exc_pending : Option ℕ
  pub exc_guard : Option (Unit {0})
  pub shared_pending : Multiset ℕ
  pub shared_guard : Multiset (ℕ × ℕ)

-- two guards are the same: same cell, same record
abbrev pub same_guard : ℕ × ℕ → ℕ × ℕ → Bool
same_guard v w = eqb v.1 w.1 && eqb v.0 w.0

pub record Initialize (rc_width init-t : ℕ) (post : DistRwLock) : Type 0 where
  pub require : 0 < rc_width
  pub init : post ≡
      record {
        rc_width = rc_width;
        storage = some init-t;
        exc_locked = false;
        ref_counts = λ i. cond (ltb i rc_width) (some 0) none;
        exc_pending = none;
        exc_guard = none;
        shared_pending = empty;
        shared_guard = empty;
      }

-- ---------- the transitions

-- the writer's part written anew, and the readers'
abbrev pub with_writer : DistRwLock → Option ℕ → Bool → Option ℕ → Option (Unit {0}) → DistRwLock
with_writer pre storage locked pending guard =
    record {
      rc_width = pre.rc_width;
      storage = storage;
      exc_locked = locked;
      ref_counts = pre.ref_counts;
      exc_pending = pending;
      exc_guard = guard;
      shared_pending = pre.shared_pending;
      shared_guard = pre.shared_guard;
    }

abbrev pub with_readers : DistRwLock → (Map ℕ) → Multiset ℕ → Multiset (ℕ × ℕ) → DistRwLock
with_readers pre counts pending guard =
    record {
      rc_width = pre.rc_width;
      storage = pre.storage;
      exc_locked = pre.exc_locked;
      ref_counts = counts;
      exc_pending = pre.exc_pending;
      exc_guard = pre.exc_guard;
      shared_pending = pending;
      shared_guard = guard;
    }

pub record ExcStart (pre post : DistRwLock) : Type 0 where
  pub require : pre.exc_locked ≡ false
  pub update : post ≡ with_writer pre pre.storage true (some 0) pre.exc_guard

pub record ExcCheckCount (pre post : DistRwLock) : Type 0 where
  pub r : ℕ
  pub removes : pre.exc_pending ≡ some r
  pub have : pre.ref_counts r ≡ some 0
  pub update : post ≡ with_writer pre pre.storage pre.exc_locked (some (r + 1)) pre.exc_guard

pub record ExcFinish (pre post : DistRwLock) : Type 0 where
  pub removes : pre.exc_pending ≡ some pre.rc_width
  pub update : post ≡ with_writer pre none pre.exc_locked none (some tt)

pub record ExcRelease (pre : DistRwLock) (t : ℕ) (post : DistRwLock) : Type 0 where
  pub removes : pre.exc_guard ≡ some tt
  pub update : post ≡ with_writer pre (some t) false pre.exc_pending none

pub record SharedStart (pre : DistRwLock) (r : ℕ) (post : DistRwLock) : Type 0 where
  pub rc : ℕ
  pub removes : pre.ref_counts r ≡ some rc
  pub update : post ≡ with_readers pre (at_key r (rc + 1) pre.ref_counts) (insert eqb r pre.shared_pending) pre.shared_guard

pub record SharedFinish (pre : DistRwLock) (r : ℕ) (post : DistRwLock) : Type 0 where
  pub require : pre.exc_locked ≡ false
  pub removes : 1 ≤ pre.shared_pending r
  -- birds_eye let t = pre.storage->0
  pub update : post ≡
      with_readers pre pre.ref_counts (remove eqb r pre.shared_pending)
      (insert same_guard (r, get_or pre.storage 0) pre.shared_guard)

pub record SharedRelease (pre : DistRwLock) (val : ℕ × ℕ) (post : DistRwLock) : Type 0 where
  pub rc : ℕ
  pub removes_guard : 1 ≤ pre.shared_guard val
  pub removes : pre.ref_counts val.0 ≡ some rc
  pub update : post ≡ with_readers pre (at_key val.0 (rc - 1) pre.ref_counts) pre.shared_pending (remove same_guard val pre.shared_guard)

pub data Transition : Type 0 where
  exc_start exc_check_count exc_finish : Transition
  exc_release : ℕ → Transition
  shared_start : ℕ → Transition
  shared_finish : ℕ → Transition
  shared_release : ℕ × ℕ → Transition

abbrev pub Moves : DistRwLock → Transition → DistRwLock → Type 0
Moves pre exc_start post = ExcStart pre post
Moves pre exc_check_count post = ExcCheckCount pre post
Moves pre exc_finish post = ExcFinish pre post
Moves pre (exc_release t) post = ExcRelease pre t post
Moves pre (shared_start r) post = SharedStart pre r post
Moves pre (shared_finish r) post = SharedFinish pre r post
Moves pre (shared_release val) post = SharedRelease pre val post

-- what the source owes of a state in which a transition deposits, withdraws or adds: a deposit finds the store empty, a withdrawal finds something, an
-- option that is added to is empty, what `->0` takes is there, and `rc - 1` is of a count of 1 or more
abbrev pub Safe : DistRwLock → Transition → Type 0
Safe pre exc_start = pre.exc_pending ≡ none
Safe pre exc_check_count = Unit {0}
Safe pre exc_finish = (pre.exc_guard ≡ none) × ((t : ℕ) × (pre.storage ≡ some t))
Safe pre (exc_release t) = pre.storage ≡ none
Safe pre (shared_start r) = Unit {0}
Safe pre (shared_finish r) = (t : ℕ) × (pre.storage ≡ some t)
Safe pre (shared_release val) = (rc : ℕ) × (pre.ref_counts val.0 ≡ some rc) × (1 ≤ rc)
