-- What an accepted step does in the source: where it leads, to no other state, and what it hands out, nothing else. Assumes nothing.
use Prim.Native.Nat.{ℕ}
use mathlib.Core.Path.{◌≡◌, refl, sym, ◌∙◌}
use mathlib.Core.Bool.{Bool, true, false}
use mathlib.Core.List.{List}
use borrow.Author.Tests.{eqb-true, ltb-true}
use Rattle.rows.proofs.Cases.{clash}
use Rattle.machine.specs.Machine.{Accepted}
use Rattle.machine.proofs.Known.{one_held}
use Rattle.machine.proofs.Multisets.{insert_at_only, remove_at_only}
use Rattle.schedule.specs.declared.steps.CountingStep.{CountingStep}
use Rattle.schedule.specs.declared.steps.CountingStep.TheVariants.{WriteableToReadable, ReadableToWriteable, NewRef, DeleteRef}
use Rattle.counting.specs.Source as source
use Rattle.counting.specs.Source.{CountingPermissions, Transition, Moves}
use Rattle.counting.specs.Counting.{counting, next, logs}
use Rattle.counting.specs.Refined.{abs, label, Sound, HandsOut}
use Rattle.counting.specs.declared.state.State.{State}
use Rattle.counting.specs.declared.entry.Entry.{Entry}
use Rattle.counting.proofs.Inductive.{same_counter}
use Rattle.counting.proofs.Sounds.{state, none_same, same_permissions, counted_none}

-- ---------- an accepted step is the source's transition, to what the state after it stands for

moves : (b : Bool) (t count refs : ℕ) (x : CountingStep) → let s = state b t count refs in
    Sound s → Accepted counting s x → Moves (abs s) (label x) (abs (next s x))
moves true t count refs (WriteableToReadable t1) k a = clash (cc a.0)
moves false t count refs (WriteableToReadable t1) k a =
    record { require = refl; update = same_permissions refl refl (none_same t1 t refs (k.unused refl).2) }
moves false t count refs ReadableToWriteable k a = clash (cc a.0)
moves true t count refs ReadableToWriteable k a =
    record {
      count = count;
      t = t;
      require = refl;
      require_zero = eqb-true count 0 a.1.0;
      update = same_permissions refl refl (none_same 0 t refs (counted_none (state true t count refs) k refl a.1.0));
    }
moves false t count refs NewRef k a = clash (cc a.0)
moves true t count refs NewRef k a =
    record { count = count; t = t; require = refl; update = same_permissions refl refl (λ u. sym (insert_at_only t refs u)) }
moves false t count refs (DeleteRef t1) k a = clash (cc a.0)
moves true t count refs (DeleteRef t1) k a =
    let q = eqb-true t1 t a.1.1.0 in
    record {
      count = count;
      t2 = t;
      removes = rw a.1.1.0 (ltb-true 0 refs a.1.0);
      require = refl;
      update = rw q (same_permissions refl refl (λ u. sym (remove_at_only t refs u)));
    }

pub accepted_moves : (s : State) (x : CountingStep) → Sound s → Accepted counting s x → Moves (abs s) (label x) (abs (next s x))
accepted_moves s x k a = moves s.present s.t s.count s.refs x k a

-- ---------- a transition has one state after it

pub moves_one : (l : Transition) (m p q : CountingPermissions) → Moves m l p → Moves m l q → p ≡ q
moves_one (source.writeable_to_readable t) m p q v w = v.update ∙ sym w.update
moves_one source.readable_to_writeable m p q v w = v.update ∙ sym w.update
moves_one source.new_ref m p q v w =
    let k = same_counter (sym v.require ∙ w.require) in
    rw (v.update, w.update, k.0, k.1)
moves_one (source.delete_ref t1) m p q v w =
    rw (v.update, w.update, (same_counter (sym v.require ∙ w.require)).0)

-- ---------- what it hands out

pub accepted_logs : (s : State) (x : CountingStep) → Sound s → Accepted counting s x → HandsOut (abs s) (label x) (logs s x)
accepted_logs s (WriteableToReadable t) k a = refl
accepted_logs s ReadableToWriteable k a = (s.t, rw a.0, refl)
accepted_logs s NewRef k a = (s.count, s.t, rw a.0, refl)
accepted_logs s (DeleteRef t) k a = refl

-- and it hands out nothing else
pub hands_one : (y : Transition) (m : CountingPermissions) (es fs : List Entry) → HandsOut m y es → HandsOut m y fs → es ≡ fs
hands_one (source.writeable_to_readable t) m es fs p q = p ∙ sym q
hands_one source.readable_to_writeable m es fs p q = rw (p.2, q.2, one_held p.1 q.1)
hands_one source.new_ref m es fs p q = rw (p.3, q.3, (same_counter (sym p.2 ∙ q.2)).1)
hands_one (source.delete_ref t) m es fs p q = p ∙ sym q
