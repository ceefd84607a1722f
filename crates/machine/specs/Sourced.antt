-- A machine beside its source: which steps of a schedule the source enables, and what a replay that goes by the source must answer. Assumes nothing.
use Rattle.std.specs.Prelude.{◌≡◌, ◌⊎◌, List, [], ◌∷◌, ◌++◌, ℕ, length, take}
use Rattle.machine.specs.Codes as code
use Rattle.machine.specs.Machine.{Machine, code_of, Accepted}
use Rattle.machine.specs.Replay.{Replayed, after, entries}

-- a line of the scope's table of codes, for one transition in one state of the source: its code, and when it applies
pub record Line : Type 1 where
  pub code : ℕ
  pub Lacks : Type 0

abbrev pub line : ℕ → Type 0 → Line
line c A = record { code = c; Lacks = A }

-- no line applies; line c does; line c does and none before it
abbrev pub Clear : List Line → Type 0
Clear [] = Unit {0}
Clear (l ∷ ls) = (l.Lacks → ⊥) × Clear ls

abbrev pub Applies : List Line → ℕ → Type 0
Applies [] c = ⊥
Applies (l ∷ ls) c = ((l.code ≡ c) × l.Lacks) ⊎ Applies ls c

abbrev pub First : List Line → ℕ → Type 0
First [] c = ⊥
First (l ∷ ls) c = ((l.code ≡ c) × l.Lacks) ⊎ ((l.Lacks → ⊥) × First ls c)

-- the source's states, and its transitions: where each leads, what it takes for granted, what it hands out
pub record Sourced (m : Machine) : Type 1 where
  pub Source : Type 0
  pub Transition : Type 0
  pub Moves : Source → Transition → Source → Type 0
  pub Safe : Source → Transition → Type 0
  pub HandsOut : Source → Transition → List m.Entry → Type 0
  -- the lines of the table that concern a transition, in the order in which they are tested
  pub lines : Source → Transition → List Line
  -- the state of the source that a machine's state stands for, and a step's transition
  pub abs : m.State → Source
  pub label : m.Step → Transition

-- of the source alone: a transition leads somewhere, and the counter's limit is not reached
pub record Leads {m : Machine} (o : Sourced m) (a : o.Source) (y : o.Transition) : Type 0 where
  pub to : o.Source
  pub moves : o.Moves a y to
  pub below : Applies (o.lines a y) code.full → ⊥

module _ {m : Machine} (o : Sourced m) where
  -- the reason of a refusal: line c applies, and none that is tested before it
  abbrev pub Reason : o.Source → o.Transition → ℕ → Type 0
  Reason a y c = First (o.lines a y) c

  -- a step is enabled if its transition leads somewhere, and the counter's limit is not reached
  abbrev pub Enabled : m.State → m.Step → Type 0
  Enabled s x = Leads o (o.abs s) (o.label x)

  -- each step is enabled in the state that those before it led to
  abbrev pub AllEnabled : m.State → List m.Step → Type 0
  AllEnabled s [] = Unit {0}
  AllEnabled s (x ∷ xs) = Enabled s x × AllEnabled (m.next s x) xs

  -- the source goes by these transitions from one of its states to another, and hands out these entries
  pub data Route : o.Source → List m.Step → List m.Entry → o.Source → Type 0 where
    stay : {a : o.Source} → Route a [] [] a
    move : {a b c : o.Source} {x : m.Step} {xs : List m.Step} {es fs : List m.Entry}
        → o.Moves a (o.label x) b → o.Safe a (o.label x) → o.HandsOut a (o.label x) es → Route b xs fs c → Route a (x ∷ xs) (es ++ fs) c

  -- the first disabled step of a schedule, with its index and the reason: the first line of the table that applies
  pub record StopsAt (s₀ : m.State) (xs : List m.Step) (k c : ℕ) : Type 0 where
    pub before : List m.Step
    pub step : m.Step
    pub behind : List m.Step
    pub split : xs ≡ before ++ (step ∷ behind)
    pub index : length before ≡ k
    pub enabled : AllEnabled s₀ before
    pub disabled : Enabled (after m s₀ before) step → ⊥
    pub reason : Reason (o.abs (after m s₀ before)) (o.label step) c

  -- an answer r to the schedule xs that goes by the source
  pub record Exact (s₀ : m.State) (xs : List m.Step) (r : Replayed m) : Type 0 where
    -- 0 exactly if every step is enabled, with the number of steps ..
    pub all_enabled : r.code ≡ 0 → AllEnabled s₀ xs
    pub accepts : AllEnabled s₀ xs → (r.code ≡ 0) × (r.place ≡ length xs)
    -- .. and else refused exactly at the first disabled step, by index and reason
    pub stops : (r.code ≡ 0 → ⊥) → StopsAt s₀ xs r.place r.code
    pub refuses : (k c : ℕ) → StopsAt s₀ xs k c → (r.place ≡ k) × (r.code ≡ c)
    -- the state that stands, and the log, are those of the steps before ..
    pub state : r.state ≡ after m s₀ (take r.place xs)
    pub log : r.log ≡ entries m s₀ (take r.place xs)
    -- .. and these did what the source says
    pub route : Route (o.abs s₀) (take r.place xs) r.log (o.abs r.state)

-- the source's own proofs, over all of its states: its transitions keep its invariants, and under them take nothing for granted that is not so
pub record Inductive {m : Machine} (o : Sourced m) (Inv : o.Source → Type 0) : Type 0 where
  pub kept : (x : o.Transition) (pre post : o.Source) → Inv pre → o.Moves pre x post → Inv post
  pub safe : (x : o.Transition) (pre post : o.Source) → Inv pre → o.Moves pre x post → o.Safe pre x

-- the table is the source's: under its invariants a transition leads somewhere, below the limit, exactly if no line of the table applies
pub record Complete {m : Machine} (o : Sourced m) (Inv : o.Source → Type 0) : Type 0 where
  pub clear_leads : (a : o.Source) (y : o.Transition) → Inv a → Clear (o.lines a y) → Leads o a y
  pub leads_clear : (a : o.Source) (y : o.Transition) → Inv a → Leads o a y → Clear (o.lines a y)

-- what is proved of each machine and its source, for the states that a schedule can reach
pub record Upholds {m : Machine} (o : Sourced m) (Good : m.State → Type 0) : Type 0 where
  -- every transition of the source is some step's
  pub onto : (y : o.Transition) → (x : m.Step) × (o.label x ≡ y)
  -- a step is accepted exactly when it is enabled ..
  pub accepted_enabled : (s : m.State) (x : m.Step) → Good s → Accepted m s x → Enabled o s x
  pub enabled_accepted : (s : m.State) (x : m.Step) → Good s → Enabled o s x → Accepted m s x
  -- .. and refused exactly with the first line of the table that applies ..
  pub code_reason : (s : m.State) (x : m.Step) (c : ℕ) → Good s → code_of m s x ≡ c → (c ≡ 0 → ⊥) → Reason o (o.abs s) (o.label x) c
  pub reason_code : (s : m.State) (x : m.Step) (c : ℕ) → Good s → Reason o (o.abs s) (o.label x) c → (code_of m s x ≡ c) × (c ≡ 0 → ⊥)
  -- .. and accepted does what the source says: the state after is the source's, and no other is; the log is what the source hands out
  pub accepted_moves : (s : m.State) (x : m.Step) → Good s → Accepted m s x → o.Moves (o.abs s) (o.label x) (o.abs (m.next s x))
  pub accepted_post : (s : m.State) (x : m.Step) (to : o.Source) → Good s → Accepted m s x → o.Moves (o.abs s) (o.label x) to
      → to ≡ o.abs (m.next s x)
  pub accepted_logs : (s : m.State) (x : m.Step) → Good s → Accepted m s x → o.HandsOut (o.abs s) (o.label x) (m.logs s x)
  pub accepted_only_logs : (s : m.State) (x : m.Step) (es : List m.Entry) → Good s → Accepted m s x → o.HandsOut (o.abs s) (o.label x) es
      → es ≡ m.logs s x
  pub accepted_safe : (s : m.State) (x : m.Step) → Good s → Accepted m s x → o.Safe (o.abs s) (o.label x)
  -- the state after is one that a schedule can reach
  pub accepted_good : (s : m.State) (x : m.Step) → Good s → Accepted m s x → Good (m.next s x)
  -- a state of the source is stood for by no other state
  pub abs_tells : (s t : m.State) → Good s → Good t → o.abs s ≡ o.abs t → s ≡ t
