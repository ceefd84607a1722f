-- Demand 3's share of the flag, said of an accepted history and of where its steps lead. Proved in proofs/Demands.antt. Assumes nothing.
use Rattle.std.specs.Prelude.{ℕ, zero, suc, ◌≤◌, ◌+◌, ◌≡◌, Bool, true, false, not, cond, List, [], ◌∷◌, ◌++◌, eqb}
use Rattle.machine.specs.Machine.{Accepted}
use Rattle.machine.specs.History.{Event, History, Run, did#, logged#, steps_of}
use Rattle.machine.specs.Replay.{after}
use Rattle.schedule.specs.Limits as limit
use Rattle.schedule.specs.declared.steps.FlagStep.{FlagStep}
use Rattle.schedule.specs.declared.steps.FlagStep.TheVariants.{Begin, Move, Read}
use Rattle.flag.specs.Flag.{flag, fresh_state, place}
use Rattle.flag.specs.declared.state.State.{State}
use Rattle.flag.specs.declared.entry.Entry.{Entry}
use Rattle.flag.specs.declared.entry.Entry.TheVariants.{Flip, Saw}

abbrev pub Hist : Type 0
Hist = History flag

abbrev pub happened : FlagStep → List Entry → Event FlagStep Entry
happened x es = record { did = x; wrote = es }

-- ---------- what is counted

abbrev pub begins_of : ℕ → FlagStep → Bool
begins_of k (Begin j) = eqb k j
begins_of k (Move j) = false
begins_of k (Read j) = false

abbrev pub flip_of : ℕ → Entry → Bool
flip_of k (Flip j) = eqb k j
flip_of k (Saw j v) = false

abbrev pub any_flip : Entry → Bool
any_flip (Flip j) = true
any_flip (Saw j v) = false

-- the flips that thread k began, those logged for it, those logged for anyone
abbrev pub begins : Hist → ℕ → ℕ
begins h k = did# (begins_of k) h

abbrev pub flips : Hist → ℕ → ℕ
flips h k = logged# (flip_of k) h

abbrev pub all_flips : Hist → ℕ
all_flips h = logged# any_flip h

-- v turned n times
abbrev pub turned : ℕ → Bool → Bool
turned zero v = v
turned (suc n) v = not (turned n v)

-- after h thread k has no flip under way: its read is accepted where the steps of h lead. Their logs play no part, so that a history that logs amiss
-- has its finished flips all the same
abbrev pub MayRead : State → Hist → ℕ → Type 0
MayRead s₀ h k = Accepted flag (after flag s₀ (steps_of h)) (Read k)

-- ---------- the demand

-- a flip of k runs from its begin to the thread's next begin, and is told apart wherever it stands in h: before it, during it, later than its end, and the
-- rest
pub record Demand (s₀ : State) (v₀ : Bool) (h : Hist) : Type 0 where
  -- no thread has more flips logged than begun
  pub none_unbegun : (k : ℕ) → flips h k ≤ begins h k
  -- a flip is logged at most once, and never by its own begin
  pub at_most_once : (k : ℕ) (rest during before : Hist) (es : List Entry) → h ≡ rest ++ (during ++ (happened (Begin k) es ∷ before)) → begins during k ≡ 0
      → (es ≡ []) × (flips during k ≤ 1)
  -- a finished one, also a helped or cancelled one, exactly once, by a step after its beginning and not after its end
  pub finished_once : (k : ℕ) (rest later during before : Hist) (es : List Entry) → h ≡ rest ++ (later ++ (during ++ (happened (Begin k) es ∷ before)))
      → begins during k ≡ 0 → begins later k ≡ 0
      → MayRead s₀ (during ++ (happened (Begin k) es ∷ before)) k → (flips during k ≡ 1) × (flips later k ≡ 0)
  -- each read shows the initial value turned once for every flip logged before it
  pub reads : (k : ℕ) (later before : Hist) (es : List Entry) → h ≡ later ++ (happened (Read k) es ∷ before) → es ≡ Saw k (turned (all_flips before) v₀) ∷ []

-- after every accepted prefix from a fresh machine
abbrev pub Demanded : Type 0
Demanded = (n : ℕ) (v₀ : Bool) → 1 ≤ n → n ≤ limit.threads → (h : Hist) (s : State) → Run flag (fresh_state n v₀) h s → Demand (fresh_state n v₀) v₀ h

-- and what the state owes is counted: of each thread, the flips begun are those logged and the one that it has not done yet. Places 1 to 4 owe it; 5 owes it
-- until another has carried it out, that is until `pending` is 2; 0 and 6 owe nothing. And the value is the initial one turned once for each flip logged
abbrev pub owed : ℕ → ℕ → ℕ
owed p d = cond (eqb p 0) 0 (cond (eqb p 6) 0 (cond (eqb p 5) (cond (eqb d 2) 0 1) 1))

abbrev pub FlipsOwed : Type 0
FlipsOwed = (n : ℕ) (v₀ : Bool) → 1 ≤ n → n ≤ limit.threads → (h : Hist) (s : State) → Run flag (fresh_state n v₀) h s
    → ((k : ℕ) → begins h k ≡ flips h k + owed (place s k) s.pending) × (s.value ≡ turned (all_flips h) v₀)
