-- The source's own proofs: `new` has `main_inv`, each transition keeps it, and under it deposits and withdrawals are safe and the four properties
-- hold. Assumes nothing.
use Prim.Native.Nat.{ℕ, ◌≤◌}
use mathlib.Core.Path.{◌≡◌, refl, ◌∙◌, ap}
use mathlib.Core.Option.{Option, none, some}
use native.Mathlib.Omega.{arith}
use lib.Dec.{eqb}
use borrow.Author.Tests.{eqb-true, eqb-false}
use Rattle.rows.proofs.Cases.{on, clash}
use Rattle.machine.specs.Multiset.{Multiset}
use Rattle.machine.proofs.Multisets.{insert_here, insert_other, remove_here, remove_other}
use Rattle.counting.specs.Source.{CountingPermissions, new, Transition, Moves, Safe}
use Rattle.counting.specs.Source.{WriteableToReadable, ReadableToWriteable, NewRef, DeleteRef}
use Rattle.counting.specs.Source.{writeable_to_readable, readable_to_writeable, new_ref, delete_ref}
use Rattle.counting.specs.Invariants as invariants
use Rattle.counting.specs.Invariants.{main_inv}

-- ---------- what the invariant says where the counter is known

abbrev permissions : Option ℕ → Option (ℕ × ℕ) → Multiset ℕ → CountingPermissions
permissions stored counter refs = record { stored = stored; main_counter = counter; read_ref = refs }

-- two counters that are equal: `cc` takes a constructor apart, and no pair
pub same_counter : {a b c d : ℕ} → ◌≡◌ {A = Option (ℕ × ℕ)} (some (a, b)) (some (c, d)) → (a ≡ c) × (b ≡ d)
same_counter {a} {b} {c} {d} e =
    let p : ◌≡◌ {A = ℕ × ℕ} (a, b) (c, d) = cc in
    (ap (λ (k : ℕ × ℕ). k.0) p, ap (λ (k : ℕ × ℕ). k.1) p)

-- there is a counter: its value is stored, and it counts the references, which all carry that value
pub record Counted (m : CountingPermissions) (count t : ℕ) : Type 0 where
  pub store : m.stored ≡ some t
  pub here : m.read_ref t ≡ count
  pub elsewhere : (u : ℕ) → ¬ (u ≡ t) → m.read_ref u ≡ 0

pub counted : (m : CountingPermissions) (count t : ℕ) → main_inv m → m.main_counter ≡ some (count, t) → Counted m count t
counted m count t i e = go m.stored m.main_counter i e
  where
    go : (o : Option ℕ) (k : Option (ℕ × ℕ)) → main_inv (permissions o k m.read_ref) → k ≡ some (count, t) → Counted (permissions o k m.read_ref) count t
    go none k i e = clash (cc i.0)
    go (some v) none i e = absurd i
    go (some v) (some k) i e =
        let a : k.0 ≡ count = cc in
        let b : v ≡ t = cc in
        record { store = (cc); here = (cc); elsewhere = λ u n. i.2 u (λ q. n (q ∙ b)) }

-- there is none: nothing is stored, and nobody has a reference
pub record Uncounted (m : CountingPermissions) : Type 0 where
  pub store : m.stored ≡ none
  pub nobody : (u : ℕ) → m.read_ref u ≡ 0

pub uncounted : (m : CountingPermissions) → main_inv m → m.main_counter ≡ none → Uncounted m
uncounted m i e = go m.stored m.main_counter i e
  where
    go : (o : Option ℕ) (k : Option (ℕ × ℕ)) → main_inv (permissions o k m.read_ref) → k ≡ none → Uncounted (permissions o k m.read_ref)
    go none k i e = record { store = refl; nobody = i.1 }
    go (some v) none i e = absurd i
    go (some v) (some k) i e = clash (cc)

-- ---------- the properties

pub compare_ref_and_counter : (m : CountingPermissions) → main_inv m → invariants.compare_ref_and_counter m
compare_ref_and_counter m i t1 count t2 h e = on (eqb t1 t2)
    (λ b. eqb-true t1 t2 b)
    (λ b. absurd (omega (arith, (counted m count t2 i e).elsewhere t1 (eqb-false t1 t2 b))))

-- who has a reference finds its value in the counter
pub held_counted : (m : CountingPermissions) (t : ℕ) → main_inv m → 1 ≤ m.read_ref t → (count : ℕ) × (m.main_counter ≡ some (count, t))
held_counted m t i h = go m.main_counter refl
  where
    go : (k : Option (ℕ × ℕ)) → m.main_counter ≡ k → (count : ℕ) × (m.main_counter ≡ some (count, t))
    go none e = absurd (omega (arith, (uncounted m i e).nobody t))
    go (some k) e = (k.0, rw (compare_ref_and_counter m i t k.0 k.1 h e) e)

pub compare_refs : (m : CountingPermissions) → main_inv m → invariants.compare_refs m
compare_refs m i t1 t2 h1 h2 = let k = held_counted m t2 i h2 in compare_ref_and_counter m i t1 k.0 t2 h1 k.1

pub read_ref_guards : (m : CountingPermissions) → main_inv m → invariants.read_ref_guards m
read_ref_guards m i t h = let k = held_counted m t i h in (counted m k.0 t i k.1).store

pub counter_guards : (m : CountingPermissions) → main_inv m → invariants.counter_guards m
counter_guards m i count t e = (counted m count t i e).store

-- ---------- the transitions

module _ (pre post : CountingPermissions) (i : main_inv pre) where
  writeable_to_readable_inductive : (t : ℕ) → WriteableToReadable pre t post → main_inv post
  writeable_to_readable_inductive t v =
      let k = uncounted pre i v.require in
      rw v.update (refl, k.nobody t, λ u n. k.nobody u)

  readable_to_writeable_inductive : ReadableToWriteable pre post → main_inv post
  readable_to_writeable_inductive v = rw v.update (refl, nobody)
    where
      nobody : (u : ℕ) → pre.read_ref u ≡ 0
      nobody u =
          let k = counted pre v.count v.t i v.require in
          on (eqb u v.t) (λ b. rw (eqb-true u v.t b) (k.here ∙ v.require_zero)) (λ b. k.elsewhere u (eqb-false u v.t b))

  new_ref_inductive : NewRef pre post → main_inv post
  new_ref_inductive v =
      let k = counted pre v.count v.t i v.require in
      let r = pre.read_ref in
      rw (v.update, k.store)
      (refl, insert_here r v.t ∙ rw k.here, λ u n. insert_other r v.t u n ∙ k.elsewhere u n)

  -- the reference that goes carries the counter's value
  deletes_own : (t1 : ℕ) (v : DeleteRef pre t1 post) → t1 ≡ v.t2
  deletes_own t1 v = compare_ref_and_counter pre i t1 v.count v.t2 v.removes v.require

  delete_ref_inductive : (t1 : ℕ) → DeleteRef pre t1 post → main_inv post
  delete_ref_inductive t1 v =
      let q = deletes_own t1 v in
      let k = counted pre v.count t1 i (rw q v.require) in
      let r = pre.read_ref in
      rw (v.update, k.store)
      (refl, remove_here r t1 ∙ rw k.here, λ u n. remove_other r t1 u n ∙ k.elsewhere u n)

-- ---------- every transition

pub inductive : (x : Transition) (pre post : CountingPermissions) → main_inv pre → Moves pre x post → main_inv post
inductive (writeable_to_readable t) pre post i v = writeable_to_readable_inductive pre post i t v
inductive readable_to_writeable pre post i v = readable_to_writeable_inductive pre post i v
inductive new_ref pre post i v = new_ref_inductive pre post i v
inductive (delete_ref t1) pre post i v = delete_ref_inductive pre post i t1 v

-- ---------- what is deposited and withdrawn

pub safe : (x : Transition) (pre post : CountingPermissions) → main_inv pre → Moves pre x post → Safe pre x
safe (writeable_to_readable t) pre post i v = (uncounted pre i v.require).store
safe readable_to_writeable pre post i v =
    (v.t, rw (← v.require_zero) v.require, (counted pre v.count v.t i v.require).store)
safe new_ref pre post i v = tt
safe (delete_ref t1) pre post i v =
    let e = rw (← deletes_own pre post i t1 v) at v.require in
    (v.count, e, rw (counted pre v.count t1 i e).here at v.removes)

-- ---------- `new`

pub new_inductive : main_inv new
new_inductive = (refl, λ u. refl)
