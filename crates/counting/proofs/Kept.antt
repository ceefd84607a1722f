-- Accepted steps keep soundness: the source keeps its invariant, the test of new_ref the limit, and a counter goes only with nothing left. Assumes nothing.
use Prim.Native.Nat.{◌≤◌}
use mathlib.Core.Path.{◌≡◌, refl}
use mathlib.Core.Bool.{false}
use native.Mathlib.Omega.{arith}
use borrow.Author.Tests.{ltb-true}
use Rattle.rows.proofs.Cases.{clash}
use Rattle.machine.specs.Machine.{Accepted}
use Rattle.schedule.specs.Limits as limit
use Rattle.schedule.specs.declared.steps.CountingStep.{CountingStep}
use Rattle.schedule.specs.declared.steps.CountingStep.TheVariants.{WriteableToReadable, ReadableToWriteable, NewRef, DeleteRef}
use Rattle.counting.specs.Counting.{counting, next}
use Rattle.counting.specs.Refined.{abs, label, Sound}
use Rattle.counting.specs.declared.state.State.{State}
use Rattle.counting.proofs.Inductive.{inductive}
use Rattle.counting.proofs.Sounds.{counted_none}
use Rattle.counting.proofs.Posts.{accepted_moves}

limit_kept : (s : State) (x : CountingStep) → s.count ≤ limit.counter → Accepted counting s x → (next s x).count ≤ limit.counter
limit_kept s (WriteableToReadable t) l a = omega arith
limit_kept s ReadableToWriteable l a = omega arith
limit_kept s NewRef l a = omega (arith, ltb-true, a.1.0)
limit_kept s (DeleteRef t) l a = omega arith

unused_kept : (s : State) (x : CountingStep) → Sound s → Accepted counting s x
    → (next s x).present ≡ false → ((next s x).t ≡ 0) × ((next s x).count ≡ 0) × ((next s x).refs ≡ 0)
unused_kept s (WriteableToReadable t) k a e = clash (cc)
unused_kept s ReadableToWriteable k a e = (refl, refl, counted_none s k a.0 a.1.0)
unused_kept s NewRef k a e = clash (cc a.0)
unused_kept s (DeleteRef t) k a e = clash (cc a.0)

pub accepted_sound : (s : State) (x : CountingStep) → Sound s → Accepted counting s x → Sound (next s x)
accepted_sound s x k a =
    record {
      inv = inductive (label x) (abs s) (abs (next s x)) k.inv (accepted_moves s x k a);
      limit = limit_kept s x k.limit a;
      unused = unused_kept s x k a;
    }
