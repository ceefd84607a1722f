-- A turn of the loop that counts a file's steps, and its ways out. Assumes nothing.
use mathlib.Core.Path.{◌≡◌, refl, ◌∙◌}
use mathlib.Core.List.{List, ◌∷◌}
use Prim.Native.Nat.{ℕ, suc, ◌+◌, ◌-◌, ◌≤◌, ◌<◌}
use native.Mathlib.Nat.{add-zero}
use native.Mathlib.Omega.{arith}
use borrow.Author.Tests.{lt-ltb, le-ltb}
use lib.ListN.{length}
use Rattle.schedule.specs.Limits as limit
use Rattle.schedule.specs.Reading.{measured_at, Placed, broken, surplus, placed, and, places_from}
use Rattle.schedule.specs.Counting.{counted, counted_of}
use Rattle.schedule.specs.Reading.{none_left, no_step, reaches}
use Rattle.schedule.specs.declared.front.Fault.TheVariants.{Step, Surplus}
use Rattle.std.specs.Prelude.{Ok, Err}

-- one step more is counted, whatever follows it
one_more : (k at : ℕ) (p : Placed) → counted (k + 1) p ≡ counted k (and at p)
one_more k at (broken i) = refl
one_more k at surplus = refl
one_more k at (placed ps) = let e : k + 1 + length ps ≡ k + length (at ∷ ps) = omega arith in rw e

module _ (kind : ℕ) (f : List ℕ) (from : ℕ) where
  -- the loop's invariant: k steps stand before `at`, and with those from there on they are the file's
  pub record Underway (at k : ℕ) : Type 0 where
    pub below : k ≤ limit.steps
    pub rest : counted k (places_from kind (limit.steps - k) f at k) ≡ counted_of kind f from

  pub begins : Underway from 0
  unfolding counted_of
  begins = let z : limit.steps - 0 ≡ limit.steps = omega arith in record { below = omega arith; rest = rw z }

  module _ (at k : ℕ) (u : Underway at k) where
    module _ (full : limit.steps ≤ k) where
      pub ends_full : length f ≤ at → Ok limit.steps ≡ counted_of kind f from
      unfolding places_from
      ends_full h =
          let z : limit.steps - k ≡ 0 = omega arith in
          let n : k ≡ limit.steps = omega (arith, u.below) in
          let e = u.rest in
          rw (← n) (rw (z, le-ltb at (length f) h, add-zero) at e)

      pub ends_surplus : at < length f → Err Surplus ≡ counted_of kind f from
      unfolding places_from
      ends_surplus h = let z : limit.steps - k ≡ 0 = omega arith in let e = u.rest in rw (z, lt-ltb at (length f) h) at e

    module _ (more : k < limit.steps) where
      one : limit.steps - k ≡ suc (limit.steps - (k + 1))
      one = omega (arith, u.below)

      pub ends : none_left ≡ measured_at kind f at → Ok k ≡ counted_of kind f from
      unfolding places_from
      ends e = rw (one, ← e, add-zero) at u.rest

      pub ends_broken : no_step ≡ measured_at kind f at → Err (Step k) ≡ counted_of kind f from
      unfolding places_from
      ends_broken e = rw (one, ← e) at u.rest

      pub goes_on : (next : ℕ) → reaches next ≡ measured_at kind f at → Underway next (k + 1)
      unfolding places_from
      goes_on next e =
          record {
            below = omega (arith, u.below);
            rest = one_more k at (places_from kind (limit.steps - (k + 1)) f next (k + 1)) ∙ (rw (one, ← e) at u.rest);
          }
