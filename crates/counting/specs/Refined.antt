-- How a state stands for the source's, and what is proved of the two: proofs/Refines.antt. Assumes nothing.
use Rattle.std.specs.Prelude.{ℕ, ◌≤◌, ◌≡◌, true, false, cond, List, [], ◌∷◌, eqb}
use Rattle.std.proofs.Math.Option.{none, some}
use Rattle.machine.specs.Codes as code
use Rattle.machine.specs.Sourced.{Line, line, Sourced, Inductive, Complete, Upholds}
use Rattle.schedule.specs.Limits as limit
use Rattle.schedule.specs.declared.steps.CountingStep.{CountingStep}
use Rattle.schedule.specs.declared.steps.CountingStep.TheVariants.{WriteableToReadable, ReadableToWriteable, NewRef, DeleteRef}
use Rattle.counting.specs.Source as source
use Rattle.counting.specs.Source.{CountingPermissions, Transition, Moves, Safe}
use Rattle.counting.specs.Invariants as invariants
use Rattle.counting.specs.Invariants.{main_inv}
use Rattle.counting.specs.Counting.{counting, fresh_state}
use Rattle.counting.specs.Sound.{sound}
use Rattle.counting.specs.declared.state.State.{State}
use Rattle.counting.specs.declared.entry.Entry.{Entry}
use Rattle.counting.specs.declared.entry.Entry.TheVariants.{Withdrawn, Granted}

-- the value and its counter are there together; all references carry the value
abbrev pub abs : State → CountingPermissions
abs s =
    record {
      stored = cond s.present (some s.t) none;
      main_counter = cond s.present (some (s.count, s.t)) none;
      read_ref = λ u. cond (eqb u s.t) s.refs 0;
    }

abbrev pub label : CountingStep → Transition
label (WriteableToReadable t) = source.writeable_to_readable t
label ReadableToWriteable = source.readable_to_writeable
label NewRef = source.new_ref
label (DeleteRef t) = source.delete_ref t

-- ---------- soundness: the source's invariant, the limit, unused entries zero

pub record Sound (s : State) : Type 0 where
  pub inv : main_inv (abs s)
  pub limit : s.count ≤ limit.counter
  pub unused : s.present ≡ false → (s.t ≡ 0) × (s.count ≡ 0) × (s.refs ≡ 0)

-- ---------- the scope's table of codes, said of counting.rs

-- writeable_to_readable needs no counter; the others need one
abbrev pub lines : CountingPermissions → Transition → List Line
lines a (source.writeable_to_readable t) = line code.phase (a.main_counter ≡ none → ⊥) ∷ []
lines a source.readable_to_writeable =
    line code.phase (a.main_counter ≡ none) ∷ line code.count ((count t : ℕ) × (a.main_counter ≡ some (count, t)) × (count ≡ 0 → ⊥)) ∷ []
lines a source.new_ref = line code.phase (a.main_counter ≡ none) ∷ line code.full ((t : ℕ) × (a.main_counter ≡ some (limit.counter, t))) ∷ []
lines a (source.delete_ref t) = line code.phase (a.main_counter ≡ none) ∷ line code.missing (a.read_ref t ≡ 0) ∷ []

-- what the source hands out: readable_to_writeable the value that it withdraws, new_ref a reference to the counter's value
abbrev pub HandsOut : CountingPermissions → Transition → List Entry → Type 0
HandsOut pre (source.writeable_to_readable t) es = es ≡ []
HandsOut pre source.readable_to_writeable es = (t : ℕ) × (pre.stored ≡ some t) × (es ≡ Withdrawn t ∷ [])
HandsOut pre source.new_ref es = (count t : ℕ) × (pre.main_counter ≡ some (count, t)) × (es ≡ Granted t ∷ [])
HandsOut pre (source.delete_ref t1) es = es ≡ []

-- the machine beside counting.rs: `Enabled`, `Route` and `Exact` of machine/specs/Sourced.antt are said of it
abbrev pub counting_permissions : Sourced counting
counting_permissions =
    record {
      Source = CountingPermissions;
      Transition = Transition;
      Moves = Moves;
      Safe = Safe;
      HandsOut = HandsOut;
      lines = lines;
      abs = abs;
      label = label;
    }

-- ---------- what is proved

pub record Refines : Type 0 where
  -- the fresh machine is the source's `new`, and sound
  pub fresh_new : abs fresh_state ≡ source.new
  pub fresh_sound : sound fresh_state ≡ true
  -- the test is the record
  pub sound_means : (s : State) → sound s ≡ true → Sound s
  pub means_sound : (s : State) → Sound s → sound s ≡ true
  -- of a sound state: a step is accepted exactly when it is enabled, and then does what the source says and leaves a sound state
  pub upholds : Upholds counting_permissions Sound
  -- the source's own proofs, over all of its states: it starts with its invariants, and its transitions keep them
  pub initial : main_inv source.new
  pub inductive : Inductive counting_permissions main_inv
  -- its table: a transition leads somewhere, below the limit, exactly if no line applies
  pub complete : Complete counting_permissions main_inv
  -- the source's properties follow from its invariant, so they hold of every sound state
  pub compare_refs : (m : CountingPermissions) → main_inv m → invariants.compare_refs m
  pub compare_ref_and_counter : (m : CountingPermissions) → main_inv m → invariants.compare_ref_and_counter m
  pub read_ref_guards : (m : CountingPermissions) → main_inv m → invariants.read_ref_guards m
  pub counter_guards : (m : CountingPermissions) → main_inv m → invariants.counter_guards m
