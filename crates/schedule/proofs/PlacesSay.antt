-- What the places of a file's steps say of its bytes, and that the bytes settle them: the one induction over `places_from` that the others cite. Assumes nothing.
use mathlib.Core.Path.{◌≡◌, refl, ap, ◌∙◌}
use mathlib.Core.List.{List, [], ◌∷◌}
use Prim.Native.Nat.{ℕ, zero, suc, ◌+◌, ◌≤◌, ◌<◌}
use native.Mathlib.Nat.{add-zero}
use native.Mathlib.Omega.{arith}
use borrow.Author.Tests.{ltb-true, ltb-false, lt-ltb, le-ltb}
use lib.Dec.{ltb}
use lib.ListN.{length}
use Rattle.schedule.specs.Reading.{measured_at, Placed, broken, surplus, placed, and, by_measure, places_from}
use Rattle.schedule.specs.Given.{Stands, Malformed, Whole#, no_more, more}
use Rattle.std.specs.Prelude.{None, Some, Ok, Err}
use Rattle.schedule.specs.Reading.{Measured}
use Rattle.schedule.proofs.MeasureSays.{by_test, MeasureSays, measure_says, end_measured, stands_measured, malformed_measured, stands_inside}

module _ (kind : ℕ) (f : List ℕ) where
  -- the places of whole steps
  abbrev pub places_of : {at k to : ℕ} → Whole# kind f at k to → List ℕ
  places_of no_more = []
  places_of (more {at} s w) = at ∷ places_of w

  pub length_places_of : {at k to : ℕ} (w : Whole# kind f at k to) → length (places_of w) ≡ k
  length_places_of no_more = refl
  length_places_of (more s w) = ap suc (length_places_of w)

  -- steps that begin inside the file end inside it
  pub whole_inside : {at k to : ℕ} → at ≤ length f → Whole# kind f at k to → to ≤ length f
  whole_inside h no_more = h
  whole_inside h (more {at} {next} s w) = whole_inside (stands_inside kind f at next s) w

  -- with n steps left from `at` on, the first of them number k: the step i is malformed, and those before it are whole
  pub record BrokenAt (n at k i : ℕ) : Type 0 where
    pub before : ℕ
    pub to : ℕ
    pub index : i ≡ k + before
    pub below : before < n
    pub whole : Whole# kind f at before to
    pub malformed : Malformed kind f to

  -- all n are whole, and bytes remain
  pub record SurplusAt (n at : ℕ) : Type 0 where
    pub to : ℕ
    pub whole : Whole# kind f at n to
    pub remain : to < length f

  -- the places are those of whole steps, behind which the file is over
  pub record PlacedAt (n at : ℕ) (ps : List ℕ) : Type 0 where
    pub steps : ℕ
    pub to : ℕ
    pub few : steps ≤ n
    pub whole : Whole# kind f at steps to
    pub over : length f ≤ to
    pub places : ps ≡ places_of whole

  abbrev pub PlacesSay : ℕ → ℕ → ℕ → Placed → Type 0
  PlacesSay n at k (broken i) = BrokenAt n at k i
  PlacesSay n at k surplus = SurplusAt n at
  PlacesSay n at k (placed ps) = PlacedAt n at ps

  -- what is said from the next place on, said with the step in front of it
  one_more : (n at next k : ℕ) (p : Placed) → Stands kind f at next → PlacesSay n next (k + 1) p → PlacesSay (suc n) at k (and at p)
  one_more n at next k (broken i) s b =
      record {
        before = suc b.before;
        to = b.to;
        index = omega (arith, b.index);
        below = omega (arith, b.below);
        whole = more s b.whole;
        malformed = b.malformed;
      }
  one_more n at next k surplus s b = record { to = b.to; whole = more s b.whole; remain = b.remain }
  one_more n at next k (placed ps) s b =
      record {
        steps = suc b.steps;
        to = b.to;
        few = omega (arith, b.few);
        whole = more s b.whole;
        over = b.over;
        places = ap (λ (us : List ℕ). at ∷ us) b.places;
      }

  ended : (n at : ℕ) → length f ≤ at → PlacedAt n at []
  ended n at h = record { steps = 0; to = at; few = omega arith; whole = no_more; over = h; places = refl }

  by_measure_lem : (n at k : ℕ) (go : ℕ → Placed) (m : Measured) → MeasureSays kind f at m → ((next : ℕ) → PlacesSay n next (k + 1) (go next))
      → PlacesSay (suc n) at k (by_measure go at k m)
  by_measure_lem n at k go (Ok None) h g = ended (suc n) at h
  by_measure_lem n at k go (Err none) w g =
      record { before = 0; to = at; index = omega arith; below = omega arith; whole = no_more; malformed = w }
  by_measure_lem n at k go (Ok (Some next)) s g = one_more n at next k (go next) s (g next)

  pub places_say : (n at k : ℕ) → PlacesSay n at k (places_from kind n f at k)
  unfolding places_from
  places_say zero at k =
      by_test (PlacesSay zero at k) (ltb at (length f)) surplus (placed [])
      (λ e. record { to = at; whole = no_more; remain = ltb-true at (length f) e })
      (λ e. ended zero at (ltb-false at (length f) e))
  places_say (suc n) at k =
      by_measure_lem n at k (λ next. places_from kind n f next (k + 1)) (measured_at kind f at) (measure_says kind f at)
      (λ next. places_say n next (k + 1))

  -- and each saying is that of one answer only

  step_placed : (n at next k : ℕ) → Stands kind f at next → places_from kind (suc n) f at k ≡ and at (places_from kind n f next (k + 1))
  unfolding places_from
  step_placed n at next k s = rw (stands_measured kind f at next s)

  pub broken_placed : {at j to : ℕ} (n k : ℕ) → Whole# kind f at j to → j < n → Malformed kind f to → places_from kind n f at k ≡ broken (k + j)
  unfolding places_from
  broken_placed zero k w l m = absurd (omega arith)
  broken_placed (suc n) k (no_more {at}) l m = rw (malformed_measured kind f at m, add-zero)
  broken_placed (suc n) k (more {at} {next} {k = j} s w) l m =
      let e : k + 1 + j ≡ k + suc j = omega arith in
      step_placed n at next k s ∙ rw (broken_placed n (k + 1) w (omega arith) m, e)

  pub surplus_placed : {at n to : ℕ} (k : ℕ) → Whole# kind f at n to → to < length f → places_from kind n f at k ≡ surplus
  unfolding places_from
  surplus_placed k (no_more {at}) l = rw (lt-ltb at (length f) l)
  surplus_placed k (more {at} {next} {k = j} s w) l = step_placed j at next k s ∙ rw (surplus_placed (k + 1) w l)

  end_placed : (n at k : ℕ) → length f ≤ at → places_from kind n f at k ≡ placed []
  unfolding places_from
  end_placed zero at k h = rw (le-ltb at (length f) h)
  end_placed (suc n) at k h = rw (end_measured kind f at h)

  pub whole_placed : {at j to : ℕ} (n k : ℕ) (w : Whole# kind f at j to) → length f ≤ to → j ≤ n → places_from kind n f at k ≡ placed (places_of w)
  whole_placed n k (no_more {at}) h l = end_placed n at k h
  whole_placed zero k (more s w) h l = absurd (omega arith)
  whole_placed (suc n) k (more {at} {next} s w) h l = step_placed n at next k s ∙ rw (whole_placed n (k + 1) w h (omega arith))
