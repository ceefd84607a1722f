-- The table of codes: counting.rs goes on exactly where no line applies, below the limit, and the tests of a sound state tell the lines. Assumes nothing.
use Prim.Native.Nat.{ℕ}
use mathlib.Core.Path.{◌≡◌, refl, sym, ◌∙◌}
use mathlib.Core.Bool.{Bool, true, false}
use mathlib.Core.Logic.{inl, inr}
use native.Mathlib.Omega.{arith}
use lib.Dec.{eqb}
use borrow.Author.Tests.{eqb-true, eqb-false, ltb-true, ltb-false}
use Rattle.rows.proofs.Cases.{on, clash}
use Rattle.machine.specs.Codes as code
use Rattle.machine.specs.Sourced.{Clear, Applies}
use Rattle.machine.proofs.Known.{must_be, must_hold, must_lack}
use Rattle.machine.proofs.Reasons.{Tells, telling}
use Rattle.schedule.specs.Limits as limit
use Rattle.schedule.specs.declared.steps.CountingStep.{CountingStep}
use Rattle.schedule.specs.declared.steps.CountingStep.TheVariants.{WriteableToReadable, ReadableToWriteable, NewRef, DeleteRef}
use Rattle.counting.specs.Source as source
use Rattle.counting.specs.Source.{CountingPermissions, Transition, Moves}
use Rattle.counting.specs.Counting.{tests}
use Rattle.counting.specs.Refined.{abs, label, lines, Sound}
use Rattle.counting.specs.declared.state.State.{State}
use Rattle.counting.proofs.Inductive.{same_counter}
use Rattle.counting.proofs.Sounds.{state}

-- ---------- the source alone

pub goes : (y : Transition) (a : CountingPermissions) → Clear (lines a y) → (to : CountingPermissions) × Moves a y to
goes (source.writeable_to_readable t) a k = (_, record { require = must_lack a.main_counter k.0; update = refl })
goes source.readable_to_writeable a k =
    let p = must_hold a.main_counter k.0 in
    let z = must_be p.0.0 0 (λ n. k.1.0 (p.0.0, p.0.1, p.1, n)) in
    (_, record { count = p.0.0; t = p.0.1; require = p.1; require_zero = z; update = refl })
goes source.new_ref a k =
    let p = must_hold a.main_counter k.0 in
    (_, record { count = p.0.0; t = p.0.1; require = p.1; update = refl })
goes (source.delete_ref t) a k =
    let p = must_hold a.main_counter k.0 in
    (_, record { count = p.0.0; t2 = p.0.1; removes = omega (arith, k.1.0); require = p.1; update = refl })

pub clear : (y : Transition) (a to : CountingPermissions) → Moves a y to → (Applies (lines a y) code.full → ⊥) → Clear (lines a y)
clear (source.writeable_to_readable t) a to v b = (λ n. n v.require, tt)
clear source.readable_to_writeable a to v b =
    (λ e. clash (cc v.require), (λ w. w.3 ((same_counter (sym w.2 ∙ v.require)).0 ∙ v.require_zero), tt))
clear source.new_ref a to v b = (λ e. clash (cc v.require), (λ w. b (inr (inl (refl, w))), tt))
clear (source.delete_ref t) a to v b = (λ e. clash (cc v.require), (λ z. omega (arith, v.removes), tt))

-- ---------- the tests of a sound state tell the lines

told : (b : Bool) (t count refs : ℕ) (x : CountingStep) → let s = state b t count refs in Sound s → Tells (lines (abs s) (label x)) (tests s x)
told true t count refs (WriteableToReadable u) k = telling (λ e q. clash (cc)) (λ e. clash (cc)) (λ e. tt)
told false t count refs (WriteableToReadable u) k = telling (λ e. clash (cc)) (λ e n. n refl) (λ e. tt)
told false t count refs ReadableToWriteable k = telling (λ e. refl) (λ e. clash (cc)) (λ e. clash (cc))
told true t count refs ReadableToWriteable k = telling (λ e. clash (cc)) (λ e q. clash (cc)) (λ e.
    telling (λ e. (count, t, refl, eqb-false count 0 e)) (λ e w. w.3 (sym (same_counter w.2).0 ∙ eqb-true count 0 e)) (λ e. tt))
told false t count refs NewRef k = telling (λ e. refl) (λ e. clash (cc)) (λ e. clash (cc))
told true t count refs NewRef k = telling (λ e. clash (cc)) (λ e q. clash (cc)) (λ e.
    telling (λ e. let q : count ≡ limit.counter = omega (arith, ltb-false, e, k.limit) in (t, rw q))
    (λ e w. omega (arith, ltb-true, e, (same_counter w.1).0)) (λ e. tt))
told false t count refs (DeleteRef u) k = telling (λ e. refl) (λ e. clash (cc)) (λ e. clash (cc))
told true t count refs (DeleteRef u) k = telling (λ e. clash (cc)) (λ e q. clash (cc)) (λ e. (
  λ e. on (eqb u t) (λ b. rw b (omega (arith, ltb-false, e))) (λ b. rw b),
  λ h.
      telling (λ e. rw e) (λ e z. omega (arith, ltb-true, h, rw e at z)) (λ e. tt),
))

pub tells : (s : State) (x : CountingStep) → Sound s → Tells (lines (abs s) (label x)) (tests s x)
tells s x k = told s.present s.t s.count s.refs x k
