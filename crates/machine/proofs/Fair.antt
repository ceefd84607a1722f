-- What a transition on one record comes to in the whole state: its code is the step's, and the record put back makes the state after. The single step and
-- the replay loop both cite it. Assumes nothing.
use mathlib.Core.Path.{◌≡◌, sym, ap, ◌∙◌}
use mathlib.Core.Bool.{Bool, true}
use mathlib.Core.List.{List}
use Prim.Native.Nat.{ℕ}
use Rattle.machine.specs.Check.{Check, first}
use Rattle.machine.specs.Machine.{Machine, code_of}
use Rattle.machine.specs.Move.{move_code, move_to}
use Rattle.machine.proofs.Moves.{move_code_lem, move_on, move_back}

module _ (m : Machine) (s : m.State) (x : m.Step) where
  -- the code a is that of the step x in the state s; t is the state after where it is 0, and s where it is not
  pub record Fair (a : ℕ) (t : m.State) : Type 0 where
    pub own : a ≡ code_of m s x
    pub went : a ≡ 0 → t ≡ m.next s x
    pub stayed : (a ≡ 0 → ⊥) → t ≡ s

  -- a record moved by the tests that decide, in range where they hold, and put back into the state
  module _ {A : Type 0} (put : A → m.State) (ts : List Check) (fits : Bool) (to from : A) where
    pub fair : code_of m s x ≡ first ts → (first ts ≡ 0 → fits ≡ true) → put to ≡ m.next s x → put from ≡ s
        → Fair (move_code ts fits) (put (move_to ts fits to from))
    fair c f e k =
        let own = move_code_lem ts fits f in
        record {
          own = own ∙ sym c;
          went = λ z. let p = sym own ∙ z in ap put (move_on ts fits to from p (f p)) ∙ e;
          stayed = λ n. ap put (move_back ts fits to from (λ z. n (own ∙ z))) ∙ k;
        }
