-- The source by itself: when two of its states are equal, which record the guards carry, and what the invariants say where the writer is known.
-- Assumes nothing.
use Prim.Native.Nat.{ℕ, ◌<◌}
use mathlib.Core.Path.{◌≡◌, refl}
use mathlib.Core.Bool.{false}
use mathlib.Core.Logic.{◌⊎◌, inl, inr, ⊎_elim}
use mathlib.Core.Option.{Option, none, some, get_or}
use native.Mathlib.Omega.{arith}
use lib.Dec.{ltb}
use borrow.Author.Tests.{ltb-true, ltb-false}
use Rattle.rows.proofs.Cases.{on, clash}
use Rattle.machine.specs.Multiset.{Multiset}
use Rattle.lock.specs.Source.{DistRwLock, with_readers}
use Rattle.lock.specs.Invariants.{IsSome, Invariants}
use Rattle.lock.proofs.Filtered.{Carry}

-- ---------- options, and two things of which neither is

pub is_some : {A : Type 0} {o : Option A} {x : A} → o ≡ some x → IsSome o
is_some e = rw e tt

pub some_of : {A : Type 0} (o : Option A) → IsSome o → (x : A) × (o ≡ some x)
some_of none i = absurd i
some_of (some x) i = (x, refl)

pub none_of : {A : Type 0} (o : Option A) → (IsSome o → ⊥) → o ≡ none
none_of none n = refl
none_of (some x) n = absurd (n tt)

pub neither : {P : Type 0} → ⊥ ⊎ ⊥ → P
neither o = absurd (⊎_elim (λ x. x) (λ x. x) o)

pub get_d_some : (o : Option ℕ) (t : ℕ) → o ≡ some t → get_or o 0 ≡ t
get_d_some o t e = rw e

-- ---------- two states of the source

-- they are equal where they differ at most in maps and multisets, and these are equal at each place
pub same_readers : (m : DistRwLock) {f f' : ℕ → Option ℕ} {p p' : Multiset ℕ} {g g' : Multiset (ℕ × ℕ)}
    → ((i : ℕ) → f i ≡ f' i) → ((r : ℕ) → p r ≡ p' r) → ((v : ℕ × ℕ) → g v ≡ g' v) → with_readers m f p g ≡ with_readers m f' p' g'
same_readers m a b c = λ i. with_readers m (λ k. a k i) (λ r. b r i) (λ v. c v i)

-- ---------- the record that the guards carry

-- it is the one in store
pub carried : (m : DistRwLock) (t : ℕ) → Invariants m → m.storage ≡ some t → Carry m t
carried m t i e r u n = let g : ¬ (0 < m.shared_guard (r, u)) = λ g. n (let q = i.agree r u g in cc) in omega arith

-- with nothing in store there is no guard, and any record will do
pub one_record : (m : DistRwLock) → Invariants m → (t : ℕ) × Carry m t
one_record m i = go m.storage refl
  where
    go : (o : Option ℕ) → m.storage ≡ o → (t : ℕ) × Carry m t
    go (some t) e = (t, carried m t i e)
    go none e = (0, λ r u n. let g : ¬ (0 < m.shared_guard (r, u)) = λ g. let q = i.agree r u g in clash (cc) in omega arith)

-- ---------- what the invariants say of the writer

module _ (pre : DistRwLock) (i : Invariants pre) where
  -- unlocked: there is no writer, and a record in store
  pub unlocked : pre.exc_locked ≡ false → (pre.exc_pending ≡ none) × (pre.exc_guard ≡ none) × ((t : ℕ) × (pre.storage ≡ some t))
  unlocked e =
      let p = none_of pre.exc_pending (λ x. let l = i.exc.unlocked (inl x) in clash (cc)) in
      let g = none_of pre.exc_guard (λ x. let l = i.exc.unlocked (inr x) in clash (cc)) in
      (p, g, some_of pre.storage (i.exc.unguarded g))

  -- the writer holds the guard: it is not pending, nothing is in store, and no reader has a guard
  pub empty_store : pre.exc_guard ≡ some tt → pre.storage ≡ none
  empty_store e = none_of pre.storage (λ x. let g = i.exc.stored x in clash (cc))

  pub not_pending : pre.exc_guard ≡ some tt → pre.exc_pending ≡ none
  not_pending e =
      none_of pre.exc_pending
      (λ x. let p = some_of pre.exc_pending x in let g = (i.exc.pending p.0 p.1).1 in clash (cc))

  pub no_reader : pre.exc_guard ≡ some tt → (r u : ℕ) → 0 < pre.shared_guard (r, u) → ⊥
  no_reader e r u g = let o = i.agree r u g in let n = empty_store e in clash (cc)

  -- a cell that has a count is inside
  pub inside : (r rc : ℕ) → pre.ref_counts r ≡ some rc → r < pre.rc_width
  inside r rc e = on (ltb r pre.rc_width)
      (λ b. ltb-true r pre.rc_width b)
      (λ b. let n = i.domain.outside r (ltb-false r pre.rc_width b) in clash (cc))
