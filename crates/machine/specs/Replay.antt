-- A whole schedule run by a machine, its oldest step first. Assumes nothing.
use Rattle.std.specs.Prelude.{◌≡◌, cond, ◌⊎◌, List, [], ◌∷◌, ◌++◌, ℕ, ◌+◌, eqb, length, take}
use Rattle.machine.specs.Machine.{Machine, code_of, Accepted}
use Rattle.machine.specs.History.{History, event}

pub record Replayed (m : Machine) : Type 0 where
  pub code : ℕ
  pub place : ℕ
  pub log : List m.Entry
  pub state : m.State

-- a replay behind a step that logged es
abbrev pub behind : {m : Machine} → List m.Entry → Replayed m → Replayed m
behind es r = record { code = r.code; place = r.place; log = es ++ r.log; state = r.state }

-- the steps xs from the state s, the first of them number k: it stops at the first step that is refused
unfoldable pub replay : (m : Machine) → m.State → ℕ → List m.Step → Replayed m
replay m s k [] = record { code = 0; place = k; log = []; state = s }
replay m s k (x ∷ xs) =
    cond (eqb (code_of m s x) 0)
    (behind (m.logs s x) (replay m (m.next s x) (k + 1) xs))
    (record { code = code_of m s x; place = k; log = []; state = s })

-- each step of xs is accepted in the state that those before it led to
abbrev pub AllAccepted : (m : Machine) → m.State → List m.Step → Type 0
AllAccepted m s [] = Unit {0}
AllAccepted m s (x ∷ xs) = Accepted m s x × AllAccepted m (m.next s x) xs

-- the state after the steps xs, and what they logged
abbrev pub after : (m : Machine) → m.State → List m.Step → m.State
after m s [] = s
after m s (x ∷ xs) = after m (m.next s x) xs

abbrev pub entries : (m : Machine) → m.State → List m.Step → List m.Entry
entries m s [] = []
entries m s (x ∷ xs) = m.logs s x ++ entries m (m.next s x) xs

-- the history h with the steps xs, accepted from s, on top
abbrev pub past : (m : Machine) → History m → m.State → List m.Step → History m
past m h s [] = h
past m h s (x ∷ xs) = past m (event m s x ∷ h) (m.next s x) xs

-- the schedule stopped at a step that its state refuses with the code answered
pub record Stopped (m : Machine) (xs : List m.Step) (r : Replayed m) : Type 0 where
  pub step : m.Step
  pub rest : List m.Step
  pub split : xs ≡ take r.place xs ++ (step ∷ rest)
  pub place : length (take r.place xs) ≡ r.place
  pub refused : code_of m r.state step ≡ r.code
  pub nonzero : r.code ≡ 0 → ⊥

-- the schedule came to its end
pub record Finished (m : Machine) (xs : List m.Step) (r : Replayed m) : Type 0 where
  pub code : r.code ≡ 0
  pub place : r.place ≡ length xs

-- what an answer r to the schedule xs must tell: the steps before its place are accepted, state and log are theirs, and there the schedule ends or its
-- step is refused
pub record Told (m : Machine) (s : m.State) (xs : List m.Step) (r : Replayed m) : Type 0 where
  pub accepted : AllAccepted m s (take r.place xs)
  pub state : r.state ≡ after m s (take r.place xs)
  pub log : r.log ≡ entries m s (take r.place xs)
  pub ends : Finished m xs r ⊎ Stopped m xs r
