-- The six invariants of dist_rwlock.rs and its property, under their own names. Assumes nothing.
use Rattle.std.specs.Prelude.{ℕ, ◌+◌, ◌≤◌, ◌<◌, ◌≡◌, true, false, ◌⊎◌, List, [], ◌∷◌}
use Rattle.std.proofs.Math.Option.{Option, none, some}
use Rattle.rows.specs.Walk.{sum}
use Rattle.machine.specs.Multiset.{Multiset}
use Rattle.lock.specs.Source.{DistRwLock}

-- there is something in an option
abbrev pub IsSome : {A : Type 0} → Option A → Type 0
IsSome none = ⊥
IsSome (some a) = Unit {0}

pub record ref_counts_domain (m : DistRwLock) : Type 0 where
  pub positive : 0 < m.rc_width
  pub inside : (i : ℕ) → i < m.rc_width → IsSome (m.ref_counts i)
  pub outside : (i : ℕ) → m.rc_width ≤ i → m.ref_counts i ≡ none

pub record exc_inv (m : DistRwLock) : Type 0 where
  pub locked : m.exc_locked ≡ true → IsSome m.exc_pending ⊎ IsSome m.exc_guard
  pub unlocked : IsSome m.exc_pending ⊎ IsSome m.exc_guard → m.exc_locked ≡ true
  pub stored : IsSome m.storage → m.exc_guard ≡ none
  pub unguarded : m.exc_guard ≡ none → IsSome m.storage
  pub pending : (cur-r : ℕ) → m.exc_pending ≡ some cur-r
      → (cur-r ≤ m.rc_width) × (m.exc_guard ≡ none) × ((r t : ℕ) → 0 < m.shared_guard (r, t) → cur-r ≤ r)

abbrev pub shared_pending_in_range : DistRwLock → Type 0
shared_pending_in_range m = (r : ℕ) → 0 < m.shared_pending r → r < m.rc_width

abbrev pub shared_guard_in_range : DistRwLock → Type 0
shared_guard_in_range m = (r t : ℕ) → 0 < m.shared_guard (r, t) → r < m.rc_width

abbrev pub shared_inv_agree : DistRwLock → Type 0
shared_inv_agree m = (r t : ℕ) → 0 < m.shared_guard (r, t) → m.storage ≡ some t

-- filter_r(shared_guard, r).len(): the counts at r added up over the records that occur there, each once
abbrev pub Occurs : ℕ → List ℕ → Type 0
Occurs t [] = ⊥
Occurs t (u ∷ us) = (t ≡ u) ⊎ Occurs t us

abbrev pub Once : List ℕ → Type 0
Once [] = Unit {0}
Once (u ∷ us) = (Occurs u us → ⊥) × Once us

pub record FilterLen (g : Multiset (ℕ × ℕ)) (r n : ℕ) : Type 0 where
  pub records : List ℕ
  pub once : Once records
  pub all : (t : ℕ) → 0 < g (r, t) → Occurs t records
  pub len : n ≡ sum (λ t. g (r, t)) records

pub record shared_counts_agree (m : DistRwLock) : Type 0 where
  pub agree : (r : ℕ) → r < m.rc_width
      → (rc n : ℕ) → m.ref_counts r ≡ some rc → FilterLen m.shared_guard r n → rc ≡ m.shared_pending r + n
  -- a multiset is finite
  pub finite : (r : ℕ) → (n : ℕ) × FilterLen m.shared_guard r n

pub record Invariants (m : DistRwLock) : Type 0 where
  pub domain : ref_counts_domain m
  pub exc : exc_inv m
  pub pending_range : shared_pending_in_range m
  pub guard_range : shared_guard_in_range m
  pub agree : shared_inv_agree m
  pub counts : shared_counts_agree m

-- do_guard: a guard's value is the stored one. The source states this property beside the invariant that says the same
abbrev pub do_guard : DistRwLock → Type 0
do_guard m = shared_inv_agree m

-- RwLock::new promises `wf()`: as many cells as the width, each with its own index and the count 0. The source ties neither width nor t to the
-- arguments; here both are
pub record New (rc_width t : ℕ) (m : DistRwLock) : Type 0 where
  pub width : m.rc_width ≡ rc_width
  pub cells : (i : ℕ) → i < rc_width → m.ref_counts i ≡ some 0
  pub beyond : (i : ℕ) → rc_width ≤ i → m.ref_counts i ≡ none
  pub unlocked : m.exc_locked ≡ false
  pub stored : m.storage ≡ some t
