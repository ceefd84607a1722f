-- The table of codes: helping.rs goes on exactly where no line applies, and the tests of a sound state tell the lines. Assumes nothing.
use Prim.Native.Nat.{ℕ, ◌≤◌}
use mathlib.Core.Path.{◌≡◌, refl}
use mathlib.Core.Bool.{true, false}
use native.Mathlib.Omega.{arith}
use lib.Dec.{eqb, ltb}
use borrow.Author.Tests.{eqb-true, eqb-false, ltb-true, ltb-false, not-true, not-false}
use Rattle.rows.proofs.Cases.{clash}
use Rattle.machine.specs.Sourced.{Clear}
use Rattle.machine.proofs.Reasons.{Tells, telling}
use Rattle.schedule.specs.declared.steps.FlagStep.{FlagStep}
use Rattle.schedule.specs.declared.steps.FlagStep.TheVariants.{Begin, Move, Read}
use Rattle.flag.specs.Source as source
use Rattle.flag.specs.Source.{Control, Flag, Transition, Moves}
use Rattle.flag.specs.Flag.{place, tests}
use Rattle.flag.specs.Refined.{abs, label, lines, Sound}
use Rattle.flag.specs.declared.state.State.{State}
use Rattle.flag.proofs.Loop.{outside_zero}

-- ---------- the source alone

-- a thread that cannot be in `flip` is outside
must_return : (c : Control) → ((c ≡ source.returned → ⊥) → ⊥) → c ≡ source.returned
must_return source.returned n = refl
must_return source.try_cancel_two_flips n = absurd (n (λ e. clash (cc)))
must_return source.try_simple_flip n = absurd (n (λ e. clash (cc)))
must_return source.try_simple_flip_second n = absurd (n (λ e. clash (cc)))
must_return source.try_handshake n = absurd (n (λ e. clash (cc)))
must_return source.try_handshake_second n = absurd (n (λ e. clash (cc)))
must_return source.try_handshake_store n = absurd (n (λ e. clash (cc)))

pub goes : (y : Transition) (a : Flag) → Clear (lines a y) → (to : Flag) × Moves a y to
goes (source.begin k) a c = (_, record { thread = omega (arith, c.0); outside = must_return (a.controls k) c.1.0; update = refl })
goes (source.move k) a c = (_, record { thread = omega (arith, c.0); inside = c.1.0; update = refl })
goes (source.read k) a c = (_, record { thread = omega (arith, c.0); outside = must_return (a.controls k) c.1.0; update = refl })

pub clear : (y : Transition) (a to : Flag) → Moves a y to → Clear (lines a y)
clear (source.begin k) a to v = (λ o. omega (arith, v.thread), (λ n. n v.outside, tt))
clear (source.move k) a to v = (λ o. omega (arith, v.thread), (v.inside, tt))
clear (source.read k) a to v = (λ o. omega (arith, v.thread), (λ n. n v.outside, tt))

-- ---------- the tests of a sound state tell the lines

module _ (s : State) (i : Sound s) (k : ℕ) where
  -- a place is 0 exactly outside of `flip`
  inside : eqb (place s k) 0 ≡ false → (abs s).controls k ≡ source.returned → ⊥
  inside e r = eqb-false (place s k) 0 e (outside_zero (place s k) (i.places k) r)

  outside : eqb (place s k) 0 ≡ true → (abs s).controls k ≡ source.returned
  outside e = rw (eqb-true (place s k) 0 e)

  -- each step tests first that the thread is there
  abbrev there : {R : Type 0} → R → (ltb k s.threads ≡ false → s.threads ≤ k) × (ltb k s.threads ≡ true → (s.threads ≤ k → ⊥) × R)
  there r = telling (ltb-false k s.threads) (λ l o. omega (arith, ltb-true k s.threads l)) (λ l. r)

pub tells : (s : State) (x : FlagStep) → Sound s → Tells (lines (abs s) (label x)) (tests s x)
tells s (Begin k) i = there s i k (telling (inside s i k) (λ e n. n (outside s i k e)) (λ e. tt))
tells s (Move k) i =
    let p = eqb (place s k) 0 in
    there s i k (telling (λ e. outside s i k (not-false p e)) (λ e. inside s i k (not-true p e)) (λ e. tt))
tells s (Read k) i = there s i k (telling (inside s i k) (λ e n. n (outside s i k e)) (λ e. tt))
