-- The source's own proofs: `initialize` has the six invariants, each transition keeps them, and under them deposits and withdrawals are safe. So the
-- transcription is tried by itself, apart from the machine. Assumes nothing.
use Prim.Native.Nat.{ℕ, ◌+◌, ◌-◌, ◌≤◌, ◌<◌}
use mathlib.Core.Path.{◌≡◌, refl}
use mathlib.Core.Bool.{Bool, true, false, cond}
use mathlib.Core.Logic.{inl, inr}
use mathlib.Core.Option.{Option, none, some}
use native.Mathlib.Omega.{arith}
use lib.Dec.{eqb, ltb}
use borrow.Author.Tests.{eqb-true, eqb-false, eq-eqb, ne_eqb, lt-ltb, le-ltb}
use Rattle.rows.proofs.Cases.{on, clash, both_true}
use Rattle.machine.specs.Map.{at_key}
use Rattle.machine.specs.Multiset.{Multiset, insert, remove}
use Rattle.lock.specs.Source as source
use Rattle.lock.specs.Source.{DistRwLock, same_guard, Initialize, Transition, Moves, Safe, with_writer, with_readers}
use Rattle.lock.specs.Invariants.{ref_counts_domain, exc_inv, shared_inv_agree, Invariants, do_guard}
use Rattle.lock.proofs.Filtered.{counted, agreeing}
use Rattle.lock.proofs.Upheld.{is_some, some_of, neither, get_d_some, carried, one_record, unlocked, empty_store, not_pending, no_reader, inside}

module _ (pre : DistRwLock) (i : Invariants pre) where
  -- ---------- the writer's transitions leave counts, pending readers and guards as they are

  module _ (storage : Option ℕ) (locked : Bool) (pending : Option ℕ) (guard : Option (Unit {0})) where
    abbrev written : DistRwLock
    written = with_writer pre storage locked pending guard

    writer_kept : exc_inv written → shared_inv_agree written → Invariants written
    writer_kept e a =
        record {
          domain = record { positive = i.domain.positive; inside = i.domain.inside; outside = i.domain.outside };
          exc = e;
          pending_range = i.pending_range;
          guard_range = i.guard_range;
          agree = a;
          counts = record { agree = i.counts.agree; finite = i.counts.finite };
        }

  module _ (post : DistRwLock) where
    exc_start_inductive : source.ExcStart pre post → Invariants post
    exc_start_inductive v = rw v.update (writer_kept _ _ _ _ exc i.agree)
      where
        exc : exc_inv (with_writer pre pre.storage true (some 0) pre.exc_guard)
        exc = record {
          locked = λ e. inl tt;
          unlocked = λ o. refl;
          stored = i.exc.stored;
          unguarded = i.exc.unguarded;
          pending = λ c e. let q : 0 ≡ c = cc in rw (← q) (omega arith, (unlocked pre i v.require).1, λ r t g. omega arith);
        }

    -- the cell that it checked counts nobody, so that no guard stands there
    exc_check_count_inductive : source.ExcCheckCount pre post → Invariants post
    exc_check_count_inductive v = rw v.update (writer_kept _ _ _ _ exc i.agree)
      where
        before : (v.r ≤ pre.rc_width) × (pre.exc_guard ≡ none) × ((r t : ℕ) → 0 < pre.shared_guard (r, t) → v.r ≤ r)
        before = i.exc.pending v.r v.removes

        beyond : (r t : ℕ) → 0 < pre.shared_guard (r, t) → v.r + 1 ≤ r
        beyond r t g = on (eqb r v.r)
            (λ b.
            let c = counted pre t (carried pre t i (i.agree r t g)) i.counts v.r (inside pre i v.r 0 v.have) 0 v.have in
            absurd (omega (arith, rw (eqb-true r v.r b) at g)))
            (λ b. omega (arith, eqb-false r v.r b, before.2 r t g))

        exc : exc_inv (with_writer pre pre.storage pre.exc_locked (some (v.r + 1)) pre.exc_guard)
        exc = record {
          locked = λ e. inl tt;
          unlocked = λ o. i.exc.unlocked (inl (is_some v.removes));
          stored = i.exc.stored;
          unguarded = i.exc.unguarded;
          pending = λ c e. let q : v.r + 1 ≡ c = cc in rw (← q) (omega (arith, inside pre i v.r 0 v.have), before.1, beyond);
        }

    -- it has checked every cell
    exc_finish_inductive : source.ExcFinish pre post → Invariants post
    exc_finish_inductive v = rw v.update (writer_kept _ _ _ _ exc (λ r t g. absurd (nobody r t g)))
      where
        nobody : (r t : ℕ) → 0 < pre.shared_guard (r, t) → ⊥
        nobody r t g = omega (arith, (i.exc.pending pre.rc_width v.removes).2 r t g, i.guard_range r t g)

        exc : exc_inv (with_writer pre none pre.exc_locked none (some tt))
        exc = record {
          locked = λ e. inr tt;
          unlocked = λ o. i.exc.unlocked (inl (is_some v.removes));
          stored = λ x. absurd x;
          unguarded = λ e. clash (cc);
          pending = λ c e. clash (cc);
        }

    exc_release_inductive : (t : ℕ) → source.ExcRelease pre t post → Invariants post
    exc_release_inductive t v = rw v.update (writer_kept _ _ _ _ exc (λ r u g. absurd (no_reader pre i v.removes r u g)))
      where
        exc : exc_inv (with_writer pre (some t) false pre.exc_pending none)
        exc =
            let n = not_pending pre i v.removes in
            record {
              locked = λ e. clash (cc);
              unlocked = λ o. neither (rw n at o);
              stored = λ x. refl;
              unguarded = λ e. tt;
              pending = λ c e. clash (cc);
            }

  -- ---------- the readers' transitions

  -- a map with another count at a cell inside
  domain_at : (r n rc : ℕ) (p : Multiset ℕ) (g : Multiset (ℕ × ℕ)) → pre.ref_counts r ≡ some rc
      → ref_counts_domain (with_readers pre (at_key r n pre.ref_counts) p g)
  domain_at r n rc p g e =
      record {
        positive = i.domain.positive;
        inside = λ j l. on (eqb j r) (λ b. rw b tt) (λ b. rw b (i.domain.inside j l));
        outside = λ j l. on (eqb j r) (λ b. absurd (omega (arith, eqb-true j r b, inside pre i r rc e))) (λ b. rw b (i.domain.outside j l));
      }

  module _ (post : DistRwLock) where
    shared_start_inductive : (r : ℕ) → source.SharedStart pre r post → Invariants post
    shared_start_inductive r v =
        let k = one_record pre i in
        let l = inside pre i r v.rc v.removes in
        rw v.update
        (record {
          domain = domain_at r (v.rc + 1) v.rc (insert eqb r pre.shared_pending) pre.shared_guard v.removes;
          exc = record {
            locked = i.exc.locked;
            unlocked = i.exc.unlocked;
            stored = i.exc.stored;
            unguarded = i.exc.unguarded;
            pending = i.exc.pending;
          };
          pending_range = λ q h. on (eqb q r) (λ b. omega (arith, eqb-true q r b)) (λ b. i.pending_range q (omega (arith, rw b at h)));
          guard_range = i.guard_range;
          agree = i.agree;
          counts = agreeing _ k.0 k.1 (λ q m rc e. on (eqb q r)
              (λ b.
              let f : some (v.rc + 1) ≡ some rc = rw b at e in
              let n : v.rc + 1 ≡ rc = cc in
              rw b (rw (eqb-true q r b) (omega (arith, counted pre k.0 k.1 i.counts r l v.rc v.removes))))
              (λ b. rw b (omega (arith, counted pre k.0 k.1 i.counts q m rc (rw b at e)))));
        })

    -- the guard carries the record in store, which is there since nobody has locked
    shared_finish_inductive : (r : ℕ) → source.SharedFinish pre r post → Invariants post
    shared_finish_inductive r v =
        let u = unlocked pre i v.require in
        rw (v.update, get_d_some pre.storage u.2.0 u.2.1) (finished u.2.0 u.2.1 u.0)
      where
        finished : (t : ℕ) → pre.storage ≡ some t → pre.exc_pending ≡ none
            → Invariants (with_readers pre pre.ref_counts (remove eqb r pre.shared_pending) (insert same_guard (r, t) pre.shared_guard))
        finished t e z =
            let c = carried pre t i e in
            record {
              domain = record { positive = i.domain.positive; inside = i.domain.inside; outside = i.domain.outside };
              exc = record {
                locked = i.exc.locked;
                unlocked = i.exc.unlocked;
                stored = i.exc.stored;
                unguarded = i.exc.unguarded;
                pending = λ c e. clash (cc);
              };
              pending_range = λ q h. i.pending_range q (omega arith);
              guard_range = λ q u h. on (same_guard (q, u) (r, t))
                  (λ b. rw (eqb-true q r (both_true (eqb u t) (eqb q r) b).1) (i.pending_range r v.removes))
                  (λ b. i.guard_range q u (omega (arith, rw b at h)));
              agree = λ q u h. on (same_guard (q, u) (r, t))
                  (λ b. rw (eqb-true u t (both_true (eqb u t) (eqb q r) b).0) e)
                  (λ b. i.agree q u (omega (arith, rw b at h)));
              counts = agreeing _ t (λ q u n. rw (ne_eqb u t n) (omega (arith, c q u n))) (λ q m rc f. on (eqb q r)
                  (λ b. rw (eq-eqb t t refl, b) (omega (arith, counted pre t c i.counts q m rc f, rw (← eqb-true q r b) at v.removes)))
                  (λ b. rw (eq-eqb t t refl, b) (omega (arith, counted pre t c i.counts q m rc f))));
            }

    -- the guard that goes carries the record in store
    shared_release_inductive : (val : ℕ × ℕ) → source.SharedRelease pre val post → Invariants post
    shared_release_inductive val v =
        let r = val.0 in
        let t = val.1 in
        let c = carried pre t i (i.agree r t v.removes_guard) in
        let l = inside pre i r v.rc v.removes in
        let k = i.exc.pending in
        rw v.update
        (record {
          domain = domain_at r (v.rc - 1) v.rc pre.shared_pending (remove same_guard val pre.shared_guard) v.removes;
          exc = record {
            locked = i.exc.locked;
            unlocked = i.exc.unlocked;
            stored = i.exc.stored;
            unguarded = i.exc.unguarded;
            pending = λ n e. ((k n e).0, (k n e).1, λ q u h. (k n e).2 q u (omega arith));
          };
          pending_range = i.pending_range;
          guard_range = λ q u h. i.guard_range q u (omega arith);
          agree = λ q u h. i.agree q u (omega arith);
          counts = agreeing _ t (λ q u n. omega (arith, c q u n)) (λ q m rc e. on (eqb q r)
              (λ b.
              let f : some (v.rc - 1) ≡ some rc = rw b at e in
              let n : v.rc - 1 ≡ rc = cc in
              rw (eq-eqb t t refl, b) (rw (eqb-true q r b) (omega (arith, v.removes_guard, counted pre t c i.counts r l v.rc v.removes))))
              (λ b. rw (eq-eqb t t refl, b) (omega (arith, counted pre t c i.counts q m rc (rw b at e)))));
        })

-- ---------- every transition

pub inductive : (x : Transition) (pre post : DistRwLock) → Invariants pre → Moves pre x post → Invariants post
inductive source.exc_start pre post i v = exc_start_inductive pre i post v
inductive source.exc_check_count pre post i v = exc_check_count_inductive pre i post v
inductive source.exc_finish pre post i v = exc_finish_inductive pre i post v
inductive (source.exc_release t) pre post i v = exc_release_inductive pre i post t v
inductive (source.shared_start r) pre post i v = shared_start_inductive pre i post r v
inductive (source.shared_finish r) pre post i v = shared_finish_inductive pre i post r v
inductive (source.shared_release val) pre post i v = shared_release_inductive pre i post val v

-- ---------- what is deposited, withdrawn and added

pub safe : (x : Transition) (pre post : DistRwLock) → Invariants pre → Moves pre x post → Safe pre x
safe source.exc_start pre post i v = (unlocked pre i v.require).0
safe source.exc_check_count pre post i v = tt
safe source.exc_finish pre post i v =
    let g = (i.exc.pending pre.rc_width v.removes).1 in
    (g, some_of pre.storage (i.exc.unguarded g))
safe (source.exc_release t) pre post i v = empty_store pre i v.removes
safe (source.shared_start r) pre post i v = tt
safe (source.shared_finish r) pre post i v = (unlocked pre i v.require).2
safe (source.shared_release val) pre post i v =
    let t = val.1 in
    let c = carried pre t i (i.agree val.0 t v.removes_guard) in
    let n = counted pre t c i.counts val.0 (inside pre i val.0 v.rc v.removes) v.rc v.removes in
    (v.rc, v.removes, omega (arith, v.removes_guard))

pub do_guard_holds : (m : DistRwLock) → Invariants m → do_guard m
do_guard_holds m i = i.agree

-- ---------- `initialize`

pub initialize_inductive : (w t : ℕ) (post : DistRwLock) → Initialize w t post → Invariants post
initialize_inductive w t post v =
    rw v.init
    (record {
      domain = record { positive = v.require; inside = λ j l. rw (lt-ltb j w l) tt; outside = λ j l. rw (le-ltb j w l) };
      exc = record {
        locked = λ e. clash (cc);
        unlocked = λ o. neither o;
        stored = λ x. refl;
        unguarded = λ e. tt;
        pending = λ c e. clash (cc);
      };
      pending_range = λ r h. absurd (omega arith);
      guard_range = λ r u h. absurd (omega arith);
      agree = λ r u h. absurd (omega arith);
      counts = agreeing _ t (λ r u n. refl) none_counted;
    })
  where
    none_counted : (r : ℕ) → r < w → (rc : ℕ) → cond (ltb r w) (some 0) none ≡ some rc → rc ≡ 0 + 0
    none_counted r l rc e = let f : some 0 ≡ some rc = rw (lt-ltb r w l) at e in cc
