-- No reason has the number of what is accepted, and each has a number of its own: so what is told in numbers settles what is answered. Assumes nothing.
use mathlib.Core.Path.{◌≡◌, refl, sym, ap, ◌∙◌}
use mathlib.Core.List.{List, [], ◌∷◌}
use Prim.Native.Nat.{ℕ}
use lib.ListN.{get_or}
use Rattle.std.specs.Prelude.{Option, Some, None, Result, Ok, Err}
use Rattle.machine.specs.Refusals.{number, verdict_code}
use Rattle.machine.specs.Made.{Fresh, made_by}
use Rattle.machine.specs.Move.{Moved, as_moved}
use Rattle.machine.specs.Single.{InNumbers, told_by, bytes_logged}
use Rattle.machine.specs.declared.single.Answer.{Answer}
use Rattle.machine.specs.declared.made.Made.{Made}
use Rattle.machine.specs.declared.refusal.Refusal.{Refusal}
use Rattle.machine.specs.declared.refusal.Refusal.TheVariants.{WrongLength, Version, Body, Kind, Parameter, Malformed, Surplus, Room, Unsound, Outside, Phase, Cursor, Slot, Element, Count, Missing, Full}

-- the reasons by their number
abbrev reasons : List (Option Refusal)
reasons =
    None
    ∷ Some WrongLength
    ∷ Some Version
    ∷ Some Body
    ∷ Some Kind
    ∷ Some Parameter
    ∷ Some Malformed
    ∷ Some Surplus
    ∷ Some Room
    ∷ None
    ∷ Some Unsound
    ∷ Some Outside
    ∷ Some Phase
    ∷ Some Cursor
    ∷ Some Slot
    ∷ Some Element
    ∷ Some Count
    ∷ Some Missing
    ∷ Some Full
    ∷ []

reason_back : (why : Refusal) → get_or reasons (number why) None ≡ Some why
reason_back WrongLength = refl
reason_back Version = refl
reason_back Body = refl
reason_back Kind = refl
reason_back Parameter = refl
reason_back Malformed = refl
reason_back Surplus = refl
reason_back Room = refl
reason_back Unsound = refl
reason_back Outside = refl
reason_back Phase = refl
reason_back Cursor = refl
reason_back Slot = refl
reason_back Element = refl
reason_back Count = refl
reason_back Missing = refl
reason_back Full = refl

pub number_nonzero : (why : Refusal) → number why ≡ 0 → ⊥
number_nonzero why e = let back = reason_back why in let none : get_or reasons (number why) None ≡ None = rw e refl in cc

pub number_tells : (a b : Refusal) → number a ≡ number b → a ≡ b
number_tells a b e = let p = reason_back a in let q = reason_back b in let same : get_or reasons (number a) None ≡ get_or reasons (number b) None = rw e refl in cc

-- a verdict, and what a transition answers
pub verdict_tells : (r q : Result (Unit {0}) Refusal) → verdict_code r ≡ verdict_code q → r ≡ q
verdict_tells (Ok a) (Ok b) e = refl
verdict_tells (Ok a) (Err y) e = absurd (number_nonzero y (sym e))
verdict_tells (Err x) (Ok b) e = absurd (number_nonzero x e)
verdict_tells (Err x) (Err y) e = ap Err (number_tells x y e)

module _ {A : Type 0} where
  pub moved_tells : (s : A) (r q : Result A Refusal) → as_moved s r ≡ as_moved s q → r ≡ q
  moved_tells s (Ok a) (Ok b) e = ap Ok (ap (λ (m : Moved A). m.to) e)
  moved_tells s (Ok a) (Err y) e = absurd (number_nonzero y (sym (ap (λ (m : Moved A). m.code) e)))
  moved_tells s (Err x) (Ok b) e = absurd (number_nonzero x (ap (λ (m : Moved A). m.code) e))
  moved_tells s (Err x) (Err y) e = ap Err (number_tells x y (ap (λ (m : Moved A). m.code) e))

-- the answer to a single step
logged_tells : (x y : Result ℕ Refusal) → bytes_logged x ≡ bytes_logged y → verdict_code x ≡ verdict_code y → x ≡ y
logged_tells (Ok n) (Ok k) e c = ap Ok e
logged_tells (Ok n) (Err y) e c = absurd (number_nonzero y (sym c))
logged_tells (Err x) (Ok k) e c = absurd (number_nonzero x c)
logged_tells (Err x) (Err y) e c = ap Err (number_tells x y c)

pub answer_tells : {S : Type 0} (a b : Answer S) → told_by a ≡ told_by b → a ≡ b
answer_tells {S} a b e =
    let s : a.state ≡ b.state = ap (λ (t : InNumbers S). t.state) e in
    let l : a.logged ≡ b.logged =
    logged_tells a.logged b.logged (ap (λ (t : InNumbers S). t.logged) e) (ap (λ (t : InNumbers S). t.code) e) in
    let with_state : S → Answer S = λ x. record { state = x; logged = a.logged } in
    let with_logged : Result ℕ Refusal → Answer S = λ y. record { state = b.state; logged = y } in
    ap with_state s ∙ ap with_logged l

-- a fresh machine asked for
pub made_tells : {S : Type 0} (a b : Made S) → made_by a ≡ made_by b → a ≡ b
made_tells {S} a b e =
    let s : a.state ≡ b.state = ap (λ (f : Fresh S). f.state) e in
    let v : a.verdict ≡ b.verdict = verdict_tells a.verdict b.verdict (ap (λ (f : Fresh S). f.code) e) in
    let with_state : S → Made S = λ x. record { state = x; verdict = a.verdict } in
    let with_verdict : Result (Unit {0}) Refusal → Made S = λ y. record { state = b.state; verdict = y } in
    ap with_state s ∙ ap with_verdict v
