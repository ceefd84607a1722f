-- What the answer of the front's tests says of the file, and that the file settles it. Assumes nothing.
use mathlib.Core.Path.{◌≡◌, refl, ◌∙◌}
use mathlib.Core.Bool.{not}
use mathlib.Core.Logic.{inl, inr, ⊎_elim}
use mathlib.Core.List.{List}
use Prim.Native.Nat.{ℕ, ◌-◌, ◌≤◌}
use native.Mathlib.Omega.{arith}
use borrow.Author.Tests.{ltb-true, ltb-false, eqb-true, eqb-false, not-true, not-false, lt-ltb, le-ltb, eq-eqb, ne_eqb}
use lib.Dec.{eqb, ltb}
use lib.ListN.{length, get_or}
use Rattle.rows.specs.Bytes.{number_at}
use Rattle.rows.proofs.Cases.{on}
use Rattle.schedule.specs.Limits as limit
use Rattle.schedule.specs.Widths as kind
use Rattle.std.specs.Prelude.{Ok, Err}
use Rattle.schedule.specs.Front.{flat_front, lock_front, flag_front, kind_front, opened_of, Opened, open_at}
use Rattle.schedule.specs.Given.{WrongLength, RightLength, WrongVersion, LongBody, Framed, UnknownKind, Ready, flat_ready, lock_ready, counting_ready, flag_ready, WrongParameter}
use Rattle.schedule.specs.declared.steps.Params.{Params}
use Rattle.schedule.specs.declared.steps.Params.TheVariants.{Flat, Lock, Counting, Flag}
use Rattle.schedule.specs.declared.front.Fault.TheVariants.{Length, Version, Body, Kind, Parameter, Step, Surplus}
use Rattle.schedule.proofs.MeasureSays.{by_test}

module _ (f : List ℕ) where
  -- the parameters of a front that is ready
  abbrev pub params_of : {from : ℕ} → Ready f from → Params
  params_of (flat_ready k l n) = Flat (get_or f 4 0)
  params_of (lock_ready k l m n) = Lock (get_or f 4 0) (number_at f 5 4)
  params_of (counting_ready k) = Counting
  params_of (flag_ready k l m n v) = Flag (get_or f 4 0) (eqb (get_or f 5 0) 1)

  -- the front passes all its tests
  pub record Passed (p : Params) (from : ℕ) : Type 0 where
    pub framed : Framed f
    pub ready : Ready f from
    pub params : p ≡ params_of ready

  abbrev pub FrontSays : Opened → Type 0
  FrontSays (Err Length) = WrongLength f
  FrontSays (Err Version) = WrongVersion f
  FrontSays (Err Body) = LongBody f
  FrontSays (Err Kind) = UnknownKind f
  FrontSays (Err Parameter) = WrongParameter f
  FrontSays (Err (Step k)) = ⊥
  FrontSays (Err Surplus) = ⊥
  FrontSays (Ok o) = Passed o.params o.from

  -- ---- what each kind asks of its parameters

  flat_asks : {from : ℕ} → get_or f 3 0 ≡ kind.flat → Ready f from → (5 ≤ length f) × (get_or f 4 0 ≤ limit.clients)
  flat_asks k (flat_ready k' l n) = (l, n)
  flat_asks k (lock_ready k' l m n) = absurd (omega arith)
  flat_asks k (counting_ready k') = absurd (omega arith)
  flat_asks k (flag_ready k' l m n v) = absurd (omega arith)

  lock_asks : {from : ℕ} → get_or f 3 0 ≡ kind.lock → Ready f from → (9 ≤ length f) × (1 ≤ get_or f 4 0) × (get_or f 4 0 ≤ limit.width)
  lock_asks k (flat_ready k' l n) = absurd (omega arith)
  lock_asks k (lock_ready k' l m n) = (l, m, n)
  lock_asks k (counting_ready k') = absurd (omega arith)
  lock_asks k (flag_ready k' l m n v) = absurd (omega arith)

  flag_asks : {from : ℕ} → get_or f 3 0 ≡ kind.flag → Ready f from → (6 ≤ length f) × (1 ≤ get_or f 4 0) × (get_or f 4 0 ≤ limit.threads) × (get_or f 5 0 ≤ 1)
  flag_asks k (flat_ready k' l n) = absurd (omega arith)
  flag_asks k (lock_ready k' l m n) = absurd (omega arith)
  flag_asks k (counting_ready k') = absurd (omega arith)
  flag_asks k (flag_ready k' l m n v) = (l, m, n, v)

  -- ---- from the answer to the file

  module _ (g : Framed f) where
    module _ (k : get_or f 3 0 ≡ kind.flat) where
      flat_wrong : ((5 ≤ length f) × (get_or f 4 0 ≤ limit.clients) → ⊥) → WrongParameter f
      flat_wrong n = record { framed = g; known = inl k; wrong = λ from r. n (flat_asks k r) }

      flat_says : FrontSays (flat_front f)
      flat_says =
          by_test FrontSays (ltb (length f) 5) _ _ (λ e. flat_wrong (λ h. omega (arith, ltb-true (length f) 5 e)))
          (λ a. by_test FrontSays (ltb limit.clients (get_or f 4 0)) _ _ (λ e. flat_wrong (λ h. omega (arith, ltb-true limit.clients (get_or f 4 0) e)))
          (λ b. record { framed = g; ready = flat_ready k (ltb-false (length f) 5 a) (ltb-false limit.clients (get_or f 4 0) b); params = refl }))

    module _ (k : get_or f 3 0 ≡ kind.lock) where
      lock_wrong : ((9 ≤ length f) × (1 ≤ get_or f 4 0) × (get_or f 4 0 ≤ limit.width) → ⊥) → WrongParameter f
      lock_wrong n = record { framed = g; known = inr (inl k); wrong = λ from r. n (lock_asks k r) }

      lock_says : FrontSays (lock_front f)
      lock_says =
          by_test FrontSays (ltb (length f) 9) _ _ (λ e. lock_wrong (λ h. omega (arith, ltb-true (length f) 9 e)))
          (λ a. by_test FrontSays (eqb (get_or f 4 0) 0) _ _ (λ e. lock_wrong (λ h. omega (arith, eqb-true (get_or f 4 0) 0 e)))
          (λ z. by_test FrontSays (ltb limit.width (get_or f 4 0)) _ _ (λ e. lock_wrong (λ h. omega (arith, ltb-true limit.width (get_or f 4 0) e)))
          (λ b.
          record {
            framed = g;
            ready = lock_ready k (ltb-false (length f) 9 a) (omega (arith, eqb-false (get_or f 4 0) 0 z)) (ltb-false limit.width (get_or f 4 0) b);
            params = refl;
          })))

    module _ (k : get_or f 3 0 ≡ kind.flag) where
      flag_wrong : ((6 ≤ length f) × (1 ≤ get_or f 4 0) × (get_or f 4 0 ≤ limit.threads) × (get_or f 5 0 ≤ 1) → ⊥) → WrongParameter f
      flag_wrong n = record { framed = g; known = inr (inr (inr k)); wrong = λ from r. n (flag_asks k r) }

      flag_says : FrontSays (flag_front f)
      flag_says =
          by_test FrontSays (ltb (length f) 6) _ _ (λ e. flag_wrong (λ h. omega (arith, ltb-true (length f) 6 e)))
          (λ a. by_test FrontSays (eqb (get_or f 4 0) 0) _ _ (λ e. flag_wrong (λ h. omega (arith, eqb-true (get_or f 4 0) 0 e)))
          (λ z. by_test FrontSays (ltb limit.threads (get_or f 4 0)) _ _ (λ e. flag_wrong (λ h. omega (arith, ltb-true limit.threads (get_or f 4 0) e)))
          (λ b. by_test FrontSays (ltb 1 (get_or f 5 0)) _ _ (λ e. flag_wrong (λ h. omega (arith, ltb-true 1 (get_or f 5 0) e)))
          (λ v.
          record {
            framed = g;
            ready =
                flag_ready k (ltb-false (length f) 6 a) (omega (arith, eqb-false (get_or f 4 0) 0 z)) (ltb-false limit.threads (get_or f 4 0) b)
                (ltb-false 1 (get_or f 5 0) v);
            params = refl;
          }))))

    kind_says : FrontSays (kind_front (get_or f 3 0) f)
    kind_says =
        by_test FrontSays (eqb (get_or f 3 0) kind.flat) _ _ (λ k. flat_says (eqb-true (get_or f 3 0) kind.flat k))
        (λ a. by_test FrontSays (eqb (get_or f 3 0) kind.lock) _ _ (λ k. lock_says (eqb-true (get_or f 3 0) kind.lock k))
        (λ b. by_test FrontSays (eqb (get_or f 3 0) kind.counting) _ _
        (λ k. let e = eqb-true (get_or f 3 0) kind.counting k in record { framed = g; ready = counting_ready e; params = refl })
        (λ c. by_test FrontSays (eqb (get_or f 3 0) kind.flag) _ _ (λ k. flag_says (eqb-true (get_or f 3 0) kind.flag k))
        (λ d.
        record {
          framed = g;
          unknown =
              ⊎_elim (eqb-false (get_or f 3 0) kind.flat a)
              (⊎_elim (eqb-false (get_or f 3 0) kind.lock b) (⊎_elim (eqb-false (get_or f 3 0) kind.counting c) (eqb-false (get_or f 3 0) kind.flag d)));
        }))))

  pub front_says : FrontSays (opened_of f)
  unfolding opened_of
  front_says =
      by_test FrontSays (ltb (length f) 4) _ _ (λ e. inl (ltb-true (length f) 4 e))
      (λ a. by_test FrontSays (not (eqb (number_at f 1 2) (length f - 3))) _ _ (λ e. inr (eqb-false (number_at f 1 2) (length f - 3) (not-true _ e)))
      (λ b.
      let sized : RightLength f = record { long = ltb-false (length f) 4 a; told = eqb-true (number_at f 1 2) (length f - 3) (not-false _ b) } in
      by_test FrontSays (not (eqb (get_or f 0 0) 1)) _ _ (λ e. record { sized = sized; version = eqb-false (get_or f 0 0) 1 (not-true _ e) })
      (λ c.
      let one : get_or f 0 0 ≡ 1 = eqb-true (get_or f 0 0) 1 (not-false _ c) in
      by_test FrontSays (ltb limit.body (length f - 3)) _ _
      (λ e. record { sized = sized; version = one; long = ltb-true limit.body (length f - 3) e })
      (λ d. kind_says (record { sized = sized; version = one; short = ltb-false limit.body (length f - 3) d })))))

  -- ---- from the file to the answer

  pub length_opened : WrongLength f → opened_of f ≡ Err Length
  unfolding opened_of
  length_opened (inl h) = rw (lt-ltb (length f) 4 h)
  length_opened (inr n) = on (ltb (length f) 4) (λ e. rw e) (λ e. rw (e, ne_eqb _ _ n))

  pub version_opened : WrongVersion f → opened_of f ≡ Err Version
  unfolding opened_of
  version_opened w = rw (le-ltb _ _ w.sized.long, eq-eqb _ _ w.sized.told, ne_eqb _ _ w.version)

  pub body_opened : LongBody f → opened_of f ≡ Err Body
  unfolding opened_of
  body_opened w = rw (le-ltb _ _ w.sized.long, eq-eqb _ _ w.sized.told, eq-eqb _ _ w.version, lt-ltb _ _ w.long)

  framed_opened : Framed f → opened_of f ≡ kind_front (get_or f 3 0) f
  unfolding opened_of
  framed_opened g = rw (le-ltb _ _ g.sized.long, eq-eqb _ _ g.sized.told, eq-eqb _ _ g.version, le-ltb _ _ g.short)

  pub kind_opened : UnknownKind f → opened_of f ≡ Err Kind
  kind_opened w =
      framed_opened w.framed
      ∙ rw (ne_eqb _ _ (λ e. w.unknown (inl e)), ne_eqb _ _ (λ e. w.unknown (inr (inl e))), ne_eqb _ _ (λ e. w.unknown (inr (inr (inl e)))), ne_eqb _ _ (λ e. w.unknown (inr (inr (inr e)))))

  pub ready_opened : {from : ℕ} → Framed f → (r : Ready f from) → opened_of f ≡ open_at (params_of r) from
  ready_opened g (flat_ready k l n) = framed_opened g ∙ rw (k, le-ltb (length f) 5 l, le-ltb limit.clients (get_or f 4 0) n)
  ready_opened g (lock_ready k l m n) =
      framed_opened g ∙ rw (k, le-ltb (length f) 9 l, ne_eqb (get_or f 4 0) 0 (λ e. omega arith), le-ltb limit.width (get_or f 4 0) n)
  ready_opened g (counting_ready k) = framed_opened g ∙ rw k
  ready_opened g (flag_ready k l m n v) =
      framed_opened g
      ∙ rw (k, le-ltb (length f) 6 l, ne_eqb (get_or f 4 0) 0 (λ e. omega arith), le-ltb limit.threads (get_or f 4 0) n, le-ltb 1 (get_or f 5 0) v)

  only_parameter : (o : Opened) → FrontSays o → WrongParameter f → o ≡ Err Parameter
  only_parameter (Err Length) (inl h) w = absurd (omega (arith, w.framed.sized.long))
  only_parameter (Err Length) (inr n) w = absurd (n w.framed.sized.told)
  only_parameter (Err Version) s w = absurd (s.version w.framed.version)
  only_parameter (Err Body) s w = absurd (omega (arith, s.long, w.framed.short))
  only_parameter (Err Kind) s w = absurd (s.unknown w.known)
  only_parameter (Err Parameter) s w = refl
  only_parameter (Err (Step k)) s w = absurd s
  only_parameter (Err Surplus) s w = absurd s
  only_parameter (Ok o) s w = absurd (w.wrong o.from s.ready)

  pub parameter_opened : WrongParameter f → opened_of f ≡ Err Parameter
  parameter_opened w = only_parameter (opened_of f) front_says w
