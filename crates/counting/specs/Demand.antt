-- Demand 3's share of the counting machine, said of an accepted history alone. Proved in proofs/Demands.antt. Assumes nothing.
use Rattle.std.specs.Prelude.{ℕ, ◌+◌, ◌≤◌, ◌<◌, ◌≡◌, Bool, false, cond, List, [], ◌∷◌, ◌++◌, eqb}
use Rattle.std.proofs.Math.Option.{Option, none, some}
use Rattle.machine.specs.History.{History, Run, did#, logged#}
use Rattle.schedule.specs.declared.steps.CountingStep.{CountingStep}
use Rattle.schedule.specs.declared.steps.CountingStep.TheVariants.{WriteableToReadable, ReadableToWriteable, NewRef, DeleteRef}
use Rattle.counting.specs.Counting.{counting, fresh_state}
use Rattle.counting.specs.declared.state.State.{State}
use Rattle.counting.specs.declared.entry.Entry.{Entry}
use Rattle.counting.specs.declared.entry.Entry.TheVariants.{Withdrawn, Granted}

abbrev pub Hist : Type 0
Hist = History counting

-- ---------- what is counted

-- a new_ref logged the value u; the step deletes a reference to u
abbrev pub grants : ℕ → Entry → Bool
grants u (Withdrawn t) = false
grants u (Granted t) = eqb u t

abbrev pub deletes : ℕ → CountingStep → Bool
deletes u (WriteableToReadable t) = false
deletes u ReadableToWriteable = false
deletes u NewRef = false
deletes u (DeleteRef t) = eqb u t

-- how many references to u were handed out, and how many were given back
abbrev pub granted : Hist → ℕ → ℕ
granted h u = logged# (grants u) h

abbrev pub deleted : Hist → ℕ → ℕ
deleted h u = did# (deletes u) h

-- a reference to u is held
abbrev pub Held : Hist → ℕ → Type 0
Held h u = deleted h u < granted h u

-- the value stored: that of the latest writeable_to_readable, unless a readable_to_writeable came after it
abbrev pub stored_by : CountingStep → Option ℕ → Option ℕ
stored_by (WriteableToReadable t) before = some t
stored_by ReadableToWriteable before = none
stored_by NewRef before = before
stored_by (DeleteRef t) before = before

abbrev pub stored : Hist → Option ℕ
stored [] = none
stored (e ∷ h) = stored_by e.did (stored h)

-- ---------- the demand

pub record Demand (h : Hist) : Type 0 where
  -- no reference is given back that was not handed out
  pub never_more : (u : ℕ) → deleted h u ≤ granted h u
  -- each reference that is held carries the stored value, so that two held together are equal
  pub held_stored : (u : ℕ) → Held h u → stored h ≡ some u
  pub held_equal : (u v : ℕ) → Held h u → Held h v → u ≡ v
  -- what is withdrawn is the value stored, and no reference to anything is held then
  pub withdrawn : (later before : Hist) (es : List Entry) → h ≡ later ++ (record { did = ReadableToWriteable; wrote = es } ∷ before)
      → (t : ℕ) × (stored before ≡ some t) × (es ≡ Withdrawn t ∷ []) × ((u : ℕ) → deleted before u ≡ granted before u)
  -- what a new_ref hands out is the value stored
  pub handed_out : (later before : Hist) (es : List Entry) → h ≡ later ++ (record { did = NewRef; wrote = es } ∷ before)
      → (t : ℕ) × (stored before ≡ some t) × (es ≡ Granted t ∷ [])

-- after every accepted prefix from a fresh machine
abbrev pub Demanded : Type 0
Demanded = (h : Hist) (s : State) → Run counting fresh_state h s → Demand h

-- and the references in the state are counted: of each value, those handed out are those given back and those that the state has, and what it stores is what
-- the history says
abbrev pub RefsCounted : Type 0
RefsCounted = (h : Hist) (s : State) → Run counting fresh_state h s
    → ((u : ℕ) → granted h u ≡ deleted h u + cond (eqb u s.t) s.refs 0) × (stored h ≡ cond s.present (some s.t) none)
