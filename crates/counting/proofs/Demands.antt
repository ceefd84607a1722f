-- Demand 3's share: the state after a history is told by counts of the history, so that every history from the fresh machine meets the demand. Assumes nothing.
use Prim.Native.Nat.{ℕ, ◌+◌, ◌-◌, ◌≤◌}
use mathlib.Core.Path.{◌≡◌, refl, sym, ◌∙◌, ap}
use mathlib.Core.List.{List, [], ◌∷◌, ◌++◌}
use mathlib.Core.Option.{some}
use native.Mathlib.Omega.{arith}
use lib.Dec.{eqb}
use borrow.Author.Tests.{ltb-true, eqb-true, not-true}
use Rattle.rows.specs.Walk.{bit}
use Rattle.rows.proofs.Cases.{on, tick_bit}
use Rattle.machine.specs.Machine.{Accepted}
use Rattle.machine.specs.History.{event, Run}
use Rattle.machine.proofs.Runs.{always, earlier, last}
use Rattle.machine.proofs.Multisets.{only, insert_at_only}
use Rattle.schedule.specs.declared.steps.CountingStep.{CountingStep}
use Rattle.schedule.specs.declared.steps.CountingStep.TheVariants.{WriteableToReadable, ReadableToWriteable, NewRef, DeleteRef}
use Rattle.counting.specs.Counting.{counting, fresh_state, next}
use Rattle.counting.specs.Refined.{abs, Sound}
use Rattle.counting.specs.Demand.{Hist, granted, deleted, Held, stored, Demanded, RefsCounted}
use Rattle.counting.specs.declared.state.State.{State}
use Rattle.counting.specs.declared.entry.Entry.{Entry}
use Rattle.counting.specs.declared.entry.Entry.TheVariants.{Withdrawn, Granted}
use Rattle.counting.proofs.Inductive.{compare_refs, read_ref_guards}
use Rattle.counting.proofs.Sounds.{only_none, none_same, fresh_means, counted_none}
use Rattle.counting.proofs.Kept.{accepted_sound}
use Rattle.counting.proofs.Posts.{accepted_logs}

-- ---------- the state as counts of the history

pub record Inv (h : Hist) (s : State) : Type 0 where
  pub right : Sound s
  -- of each value: handed out are those given back and those that the state still counts
  pub flow : (u : ℕ) → granted h u ≡ deleted h u + only s.t s.refs u
  pub store : stored h ≡ (abs s).stored

-- one copy of n taken off
only_down : (t n : ℕ) → 1 ≤ n → (u : ℕ) → only t n u ≡ only t (n - 1) u + bit (eqb u t)
only_down t n h u = on (eqb u t) (λ b. rw b (omega arith)) (λ b. rw b (omega arith))

-- no copies, under another value
flow_none : (h : Hist) (s : State) (t : ℕ) → Inv h s → s.refs ≡ 0 → (u : ℕ) → granted h u ≡ deleted h u + only t s.refs u
flow_none h s t i z u = i.flow u ∙ ap (λ (n : ℕ). deleted h u + n) (none_same s.t t s.refs z u)

keep : (h : Hist) (s : State) (x : CountingStep) → Inv h s → Accepted counting s x → Inv (event counting s x ∷ h) (next s x)
keep h s (WriteableToReadable t) i a =
    record {
      right = accepted_sound s (WriteableToReadable t) i.right a;
      flow = flow_none h s t i (i.right.unused (not-true s.present a.0)).2;
      store = refl;
    }
keep h s ReadableToWriteable i a =
    record {
      right = accepted_sound s ReadableToWriteable i.right a;
      flow = flow_none h s 0 i (counted_none s i.right a.0 a.1.0);
      store = refl;
    }
keep h s NewRef i a =
    record {
      right = accepted_sound s NewRef i.right a;
      flow = λ u. rw (tick_bit (eqb u s.t)) (omega (arith, i.flow u, insert_at_only s.t s.refs u));
      store = i.store;
    }
keep h s (DeleteRef t) i a =
    record {
      right = accepted_sound s (DeleteRef t) i.right a;
      flow = λ u. rw (eqb-true t s.t a.1.1.0, tick_bit (eqb u s.t))
          (omega (arith, i.flow u, only_down s.t s.refs (ltb-true 0 s.refs a.1.0) u));
      store = i.store;
    }

fresh : Inv [] fresh_state
fresh = record { right = fresh_means; flow = λ u. rw (only_none 0 u); store = refl }

pub run_inv : {h : Hist} {s : State} → Run counting fresh_state h s → Inv h s
run_inv r = always counting fresh_state Inv fresh keep r

-- ---------- what is held

module _ (h : Hist) (s : State) (i : Inv h s) where
  held : (u : ℕ) → Held h u → 1 ≤ only s.t s.refs u
  held u l = omega (arith, i.flow u)

  held_stored : (u : ℕ) → Held h u → stored h ≡ some u
  held_stored u l = i.store ∙ read_ref_guards (abs s) i.right.inv u (held u l)

  held_equal : (u v : ℕ) → Held h u → Held h v → u ≡ v
  held_equal u v l k = compare_refs (abs s) i.right.inv u v (held u l) (held v k)

  none_held : s.refs ≡ 0 → (u : ℕ) → deleted h u ≡ granted h u
  none_held z u = omega (arith, rw z at (i.flow u), only_none s.t u)

-- ---------- a withdrawal and a new_ref in the middle of a history

module _ (h later before : Hist) (s : State) (es : List Entry) (r : Run counting fresh_state h s) where
  withdrawn : h ≡ later ++ (record { did = ReadableToWriteable; wrote = es } ∷ before)
      → (t : ℕ) × (stored before ≡ some t) × (es ≡ Withdrawn t ∷ []) × ((u : ℕ) → deleted before u ≡ granted before u)
  withdrawn q =
      let e = earlier counting fresh_state later (rw q at r) in
      let l = last counting fresh_state ReadableToWriteable refl e.1 in
      let i = run_inv l.1 in
      let k = accepted_logs l.0 ReadableToWriteable i.right l.2 in
      (k.0, i.store ∙ k.1, sym l.4 ∙ k.2, none_held before l.0 i (counted_none l.0 i.right l.2.0 l.2.1.0))

  handed_out : h ≡ later ++ (record { did = NewRef; wrote = es } ∷ before) → (t : ℕ) × (stored before ≡ some t) × (es ≡ Granted t ∷ [])
  handed_out q =
      let e = earlier counting fresh_state later (rw q at r) in
      let l = last counting fresh_state NewRef refl e.1 in
      let i = run_inv l.1 in
      (l.0.t, i.store ∙ rw l.2.0, sym l.4)

pub demanded : Demanded
demanded h s r =
    let i = run_inv r in
    record {
      never_more = λ u. omega (arith, i.flow u);
      held_stored = held_stored h s i;
      held_equal = held_equal h s i;
      withdrawn = λ later before es. withdrawn h later before s es r;
      handed_out = λ later before es. handed_out h later before s es r;
    }

pub refs_counted : RefsCounted
refs_counted h s r = let i = run_inv r in (i.flow, i.store)
