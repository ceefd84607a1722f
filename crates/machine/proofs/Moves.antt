-- A transition on one record, where its numbers stay in their range: the tests decide. Assumes nothing.
use mathlib.Core.Path.{◌≡◌, sym}
use mathlib.Core.Bool.{Bool, true}
use mathlib.Core.List.{List}
use borrow.Author.Tests.{eq-eqb, ne_eqb, eqb-true}
use lib.Dec.{eqb}
use Rattle.rows.proofs.Cases.{on}
use Rattle.machine.specs.Check.{Check, first}
use Rattle.machine.specs.Move.{move_code, move_to}

module _ (tests : List Check) (fits : Bool) where
  -- the code is the tests' own
  pub move_code_lem : (first tests ≡ 0 → fits ≡ true) → move_code tests fits ≡ first tests
  move_code_lem h = on (eqb (first tests) 0)
      (λ e. let z : first tests ≡ 0 = eqb-true (first tests) 0 e in rw (e, h z) (sym z))
      (λ e. rw e)

  module _ {A : Type 0} (to from : A) where
    pub move_on : first tests ≡ 0 → fits ≡ true → move_to tests fits to from ≡ to
    move_on z h = rw (eq-eqb (first tests) 0 z, h)

    pub move_back : (first tests ≡ 0 → ⊥) → move_to tests fits to from ≡ from
    move_back n = rw (ne_eqb (first tests) 0 n)
