-- How many guards a cell has, counted as the source counts them: record by record, each record once. Where all guards carry one record, that is the
-- cell's number of guards. Assumes nothing.
use Prim.Native.Nat.{ℕ, ◌+◌, ◌<◌}
use mathlib.Core.Path.{◌≡◌, refl, sym, ◌∙◌}
use mathlib.Core.Logic.{◌⊎◌, inl, inr}
use mathlib.Core.List.{List, [], ◌∷◌}
use mathlib.Core.Option.{some}
use native.Mathlib.Omega.{arith}
use lib.Dec.{eqb, ltb}
use borrow.Author.Tests.{eqb-true, eqb-false, ltb-true, ltb-false}
use Rattle.rows.specs.Walk.{sum, bit}
use Rattle.rows.proofs.Cases.{on}
use Rattle.machine.specs.Multiset.{Multiset, insert, remove}
use Rattle.machine.proofs.Multisets.{only}
use Rattle.lock.specs.Source.{DistRwLock, same_guard}
use Rattle.lock.specs.Invariants.{Occurs, Once, FilterLen, shared_counts_agree}

-- ---------- a sum over different numbers of what is 0 but at t

module _ (f : ℕ → ℕ) (t : ℕ) (elsewhere : (u : ℕ) → (u ≡ t → ⊥) → f u ≡ 0) where
  -- t is not among them
  sum_absent : (l : List ℕ) → (Occurs t l → ⊥) → sum f l ≡ 0
  sum_absent [] n = refl
  sum_absent (u ∷ l) n = omega (arith, elsewhere u (λ e. n (inl (sym e))), sum_absent l (λ o. n (inr o)))

  -- t is among them, if f is not 0 there too
  sum_once : (l : List ℕ) → Once l → (0 < f t → Occurs t l) → sum f l ≡ f t
  sum_once [] o a = on (ltb 0 (f t)) (λ b. absurd (a (ltb-true 0 (f t) b))) (λ b. omega (arith, ltb-false 0 (f t) b))
  sum_once (u ∷ l) o a = on (eqb u t)
      (λ b. let e = eqb-true u t b in rw e (omega (arith, sum_absent l (rw e at o.0))))
      (λ b. let n = eqb-false u t b in omega (arith, elsewhere u n, sum_once l o.1 (λ h. behind n (a h))))
    where
      behind : (u ≡ t → ⊥) → (t ≡ u) ⊎ Occurs t l → Occurs t l
      behind n (inl e) = absurd (n (sym e))
      behind n (inr o) = o

-- ---------- guards that all carry the record t: as many as `guards` says at each cell

abbrev pub carrying : ℕ → (ℕ → ℕ) → Multiset (ℕ × ℕ)
carrying t guards = λ v. only t (guards v.0) v.1

-- one that stands carries t, and its cell has guards
pub stands : (t : ℕ) (guards : ℕ → ℕ) (r u : ℕ) → 0 < carrying t guards (r, u) → (u ≡ t) × (0 < guards r)
stands t guards r u h = on (eqb u t) (λ b. (eqb-true u t b, rw b at h)) (λ b. absurd (omega (arith, rw b at h)))

-- a cell with no guard, whatever the record
pub carrying_none : (t : ℕ) (guards : ℕ → ℕ) (r u : ℕ) → guards r ≡ 0 → carrying t guards (r, u) ≡ 0
carrying_none t guards r u z = on (eqb u t) (λ b. rw b z) (λ b. rw b)

-- one guard more, or one less, at r
module _ (t r : ℕ) (guards guards' : ℕ → ℕ) where
  pub carrying_more : ((q : ℕ) → guards' q ≡ guards q + bit (eqb q r)) → (v : ℕ × ℕ)
      → carrying t guards' v ≡ insert same_guard (r, t) (carrying t guards) v
  carrying_more e v = on (eqb v.1 t) (λ b. rw b (e v.0)) (λ b. rw b)

  pub carrying_down : ((q : ℕ) → guards' q + bit (eqb q r) ≡ guards q) → (v : ℕ × ℕ)
      → carrying t guards' v + bit (same_guard v (r, t)) ≡ carrying t guards v
  carrying_down e v = on (eqb v.1 t) (λ b. rw b (e v.0)) (λ b. rw b)

  pub carrying_less : ((q : ℕ) → guards' q + bit (eqb q r) ≡ guards q) → (v : ℕ × ℕ)
      → carrying t guards' v ≡ remove same_guard (r, t) (carrying t guards) v
  carrying_less e v = omega (arith, carrying_down e v)

-- ---------- filter_r(shared_guard, r).len(), where all guards carry one record

module _ (m : DistRwLock) (t : ℕ) where
  abbrev pub Carry : Type 0
  Carry = (r u : ℕ) → (u ≡ t → ⊥) → m.shared_guard (r, u) ≡ 0

  -- each count is that of the pending readers and of the guards that carry t
  abbrev pub Counted : Type 0
  Counted = (r : ℕ) → r < m.rc_width → (rc : ℕ) → m.ref_counts r ≡ some rc → rc ≡ m.shared_pending r + m.shared_guard (r, t)

  filtered : Carry → (r n : ℕ) → FilterLen m.shared_guard r n → n ≡ m.shared_guard (r, t)
  filtered c r n f = f.len ∙ sum_once (λ u. m.shared_guard (r, u)) t (c r) f.records f.once (f.all t)

  pub counted : Carry → shared_counts_agree m → Counted
  counted c a r l rc e = let f = a.finite r in omega (arith, a.agree r l rc f.0 e f.1, filtered c r f.0 f.1)

  pub agreeing : Carry → Counted → shared_counts_agree m
  agreeing c a =
      record {
        agree = λ r l rc n e f. omega (arith, a r l rc e, filtered c r n f);
        finite = λ r. (m.shared_guard (r, t), record { records = t ∷ []; once = ((λ o. o), tt); all = λ u g. inl (alone r u g); len = omega arith });
      }
    where
      alone : (r u : ℕ) → 0 < m.shared_guard (r, u) → u ≡ t
      alone r u g = on (eqb u t) (λ b. eqb-true u t b) (λ b. absurd (omega (arith, c r u (eqb-false u t b))))
