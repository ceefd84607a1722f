-- What the measure of a place says of the file's bytes, and that the bytes settle it. Assumes nothing.
use mathlib.Core.Path.{◌≡◌, refl, sym}
use mathlib.Core.Bool.{Bool, true, false, cond}
use mathlib.Core.Logic.{inl, inr, ⊎_elim}
use mathlib.Core.List.{List}
use Prim.Native.Nat.{ℕ, ◌+◌, ◌≤◌, ◌<◌}
use native.Mathlib.Omega.{arith}
use borrow.Author.Tests.{leb-true, leb-false, ltb-true, ltb-false, eqb-true, eqb-false}
use lib.Dec.{eqb, ltb, leb}
use lib.ListN.{length, get_or}
use Rattle.schedule.specs.Widths.{length_of}
use Rattle.schedule.specs.Reading.{measured_at}
use Rattle.schedule.specs.Given.{Stands, Malformed}
use Rattle.std.specs.Prelude.{None, Some, Ok, Err}
use Rattle.schedule.specs.Reading.{Measured}
use Rattle.schedule.specs.Reading.{none_left, no_step, reaches}
use Rattle.schedule.proofs.MeasureTests.{at_end, at_whole}

-- what holds of both answers of a test, each in its case, holds of the answer
pub by_test : {A : Type 0} (P : A → Type 0) (b : Bool) (x y : A) → (b ≡ true → P x) → (b ≡ false → P y) → P (cond b x y)
by_test P true x y p q = p refl
by_test P false x y p q = q refl

module _ (kind : ℕ) (f : List ℕ) (at : ℕ) where
  abbrev pub MeasureSays : Measured → Type 0
  MeasureSays (Ok None) = length f ≤ at
  MeasureSays (Err none) = Malformed kind f at
  MeasureSays (Ok (Some next)) = Stands kind f at next

  pub measure_says : MeasureSays (measured_at kind f at)
  unfolding measured_at
  measure_says =
      by_test MeasureSays (leb (length f) at) _ _ (leb-true (length f) at)
      (λ a. let inside : at < length f = leb-false (length f) at a in
      by_test MeasureSays (eqb (get_or f at 0) 0) _ _ (λ z. (inside, inl (eqb-true (get_or f at 0) 0 z)))
      (λ z. by_test MeasureSays (ltb (length f) (at + 1 + get_or f at 0)) _ _ (λ p. (inside, inr (inl (ltb-true (length f) (at + 1 + get_or f at 0) p))))
      (λ p. by_test MeasureSays (eqb (length_of kind (get_or f (at + 1) 0)) (get_or f at 0)) _ _
      (λ o. record {
        nonzero = eqb-false (get_or f at 0) 0 z;
        fits = ltb-false (length f) (at + 1 + get_or f at 0) p;
        own = eqb-true (length_of kind (get_or f (at + 1) 0)) (get_or f at 0) o;
        ends = refl;
      })
      (λ o. (inside, inr (inr (eqb-false (length_of kind (get_or f (at + 1) 0)) (get_or f at 0) o)))))))

  -- so a step that was measured whole stands there
  pub whole_stands : (next : ℕ) → measured_at kind f at ≡ reaches next → Stands kind f at next
  whole_stands next e = rw e at measure_says

  -- and each saying is that of one measure only

  pub end_measured : length f ≤ at → measured_at kind f at ≡ none_left
  end_measured h = sym (at_end kind f at h)

  pub stands_measured : (next : ℕ) → Stands kind f at next → measured_at kind f at ≡ reaches next
  stands_measured next s =
      let inside : at < length f = omega (arith, s.fits) in
      rw s.ends (sym (at_whole kind f at inside (get_or f at 0) refl s.nonzero (omega (arith, s.fits)) _ refl s.own))

  stands_sound : (next : ℕ) → Stands kind f at next → Malformed kind f at → ⊥
  stands_sound next s (inside, wrong) = ⊎_elim s.nonzero (⊎_elim (λ p. omega (arith, s.fits)) (λ o. o s.own)) wrong

  only_broken : (m : Measured) → MeasureSays m → Malformed kind f at → m ≡ no_step
  only_broken (Ok None) h w = absurd (omega (arith, w.0))
  only_broken (Err none) h w = refl
  only_broken (Ok (Some next)) s w = absurd (stands_sound next s w)

  pub malformed_measured : Malformed kind f at → measured_at kind f at ≡ no_step
  malformed_measured w = only_broken (measured_at kind f at) measure_says w

  -- a whole step ends inside the file
  pub stands_inside : (next : ℕ) → Stands kind f at next → next ≤ length f
  stands_inside next s = omega (arith, s.fits, s.ends)
