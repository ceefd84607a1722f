-- What an accepted history is, and counting in it. Demands are said of histories. Assumes nothing.
use Rattle.std.specs.Prelude.{◌≡◌, Bool, List, [], ◌∷◌, ◌++◌, ℕ}
use Rattle.rows.specs.Walk.{tick}
use Rattle.machine.specs.Machine.{Machine, Accepted}

-- an accepted step with what it logged
pub record Event (X E : Type 0) : Type 0 where
  pub did : X
  pub wrote : List E

-- the accepted steps, THE NEWEST FIRST
abbrev pub History : Machine → Type 0
History m = List (Event m.Step m.Entry)

abbrev pub event : (m : Machine) → m.State → m.Step → Event m.Step m.Entry
event m s x = record { did = x; wrote = m.logs s x }

-- Run m s₀ h s: from s₀ all steps of h were accepted, one after the other, and led to s
pub data Run (m : Machine) (s₀ : m.State) : History m → m.State → Type 0 where
  start : Run m s₀ [] s₀
  then : {h : History m} {s : m.State} {x : m.Step} → Run m s₀ h s → Accepted m s x → Run m s₀ (event m s x ∷ h) (m.next s x)

-- n and the entries of a list that pass q
abbrev pub in# : {E : Type 0} → (E → Bool) → List E → ℕ → ℕ
in# q [] n = n
in# q (e ∷ es) n = tick (q e) (in# q es n)

-- the steps of a history that pass p, and the entries logged in it that pass q
module _ {X E : Type 0} where
  abbrev pub did# : (X → Bool) → List (Event X E) → ℕ
  did# p [] = 0
  did# p (e ∷ h) = tick (p e.did) (did# p h)

  abbrev pub logged# : (E → Bool) → List (Event X E) → ℕ
  logged# q [] = 0
  logged# q (e ∷ h) = in# q e.wrote (logged# q h)

  -- a history read from its oldest step on: what was done, and what was logged
  abbrev pub steps_of : List (Event X E) → List X
  steps_of [] = []
  steps_of (e ∷ h) = steps_of h ++ (e.did ∷ [])

  abbrev pub log_of : List (Event X E) → List E
  log_of [] = []
  log_of (e ∷ h) = log_of h ++ e.wrote

  -- at each step of a history: P of what came before it, of the step and of what it logged
  abbrev pub AtEach : (List (Event X E) → X → List E → Type 0) → List (Event X E) → Type 0
  AtEach P h = (later : List (Event X E)) (e : Event X E) (before : List (Event X E)) → h ≡ later ++ (e ∷ before) → P before e.did e.wrote

  -- after each part of a history, the whole and none of it too
  abbrev pub Throughout : (List (Event X E) → Type 0) → List (Event X E) → Type 0
  Throughout P h = (later before : List (Event X E)) → h ≡ later ++ before → P before
