-- A step applied to a state in place, its entries laid into a log from a place on. Assumes nothing.
use Rattle.std.specs.Prelude.{◌≡◌, List, ℕ, Result, Ok, Err}
use Rattle.rows.specs.Stores.{Laid}
use Rattle.rows.specs.Walk.{pieces}
use Rattle.machine.specs.Machine.{Machine, code_of}
use Rattle.machine.specs.Refusals.{number}
use Rattle.machine.specs.declared.refusal.Refusal.{Refusal}

module _ (m : Machine) (bytes : m.Entry → List ℕ) where
  -- refused with the step's own code: the state and the log stay
  pub record Refuses (s : m.State) (x : m.Step) (l : List ℕ) (why : Refusal) (s' : m.State) (l' : List ℕ) : Type 0 where
    pub own : number why ≡ code_of m s x
    pub state : s' ≡ s
    pub log : l' ≡ l

  -- accepted: the state after it stands, its entries lie in the log, and the place behind them is answered
  pub record Accepts (s : m.State) (x : m.Step) (l : List ℕ) (at w : ℕ) (s' : m.State) (l' : List ℕ) : Type 0 where
    pub passes : code_of m s x ≡ 0
    pub state : s' ≡ m.next s x
    pub log : Laid l at (pieces bytes (m.logs s x)) w l'

  abbrev pub InPlace : m.State → m.Step → List ℕ → ℕ → Result ℕ Refusal → m.State → List ℕ → Type 0
  InPlace s x l at (Ok w) s' l' = Accepts s x l at w s' l'
  InPlace s x l at (Err why) s' l' = Refuses s x l why s' l'
