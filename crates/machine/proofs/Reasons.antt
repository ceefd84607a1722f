-- The table of the source and the tests of a machine: where the tests tell the lines one by one, a step is accepted exactly if no line applies, and
-- refused exactly with the first that does. Assumes nothing.
use mathlib.Core.Path.{◌≡◌, refl, sym, ◌∙◌}
use mathlib.Core.Bool.{Bool, true, false}
use mathlib.Core.Logic.{inl, inr}
use mathlib.Core.List.{List, [], ◌∷◌}
use Prim.Native.Nat.{ℕ}
use lib.Dec.{eqb}
use borrow.Author.Tests.{eqb-true, eqb-false}
use Rattle.rows.proofs.Cases.{on}
use Rattle.machine.specs.Codes as code
use Rattle.machine.specs.Check.{Check, first, All}
use Rattle.machine.specs.Machine.{Machine, code_of, Accepted}
use Rattle.machine.specs.Sourced.{Line, Clear, Applies, First, Sourced, Reason, Enabled, Inductive, Complete, Upholds}
use Rattle.machine.proofs.Steps.{code_accepted}

-- ---------- tests that tell lines

abbrev If : Bool → Type 0 → Type 0 → Type 0
If true A B = A
If false A B = B

-- each test that fails tells that the line of its code applies, the last test of a line that holds that it does not: a test may lean on those before it
abbrev pub Tells : List Line → List Check → Type 0
Tells [] [] = Unit {0}
Tells [] (t ∷ ts) = ⊥
Tells (l ∷ ls) [] = (l.Lacks → ⊥) × Tells ls []
Tells (l ∷ ls) (t ∷ ts) =
    If (eqb t.code l.code)
    ((t.holds ≡ false → l.Lacks) × (t.holds ≡ true → Tells (l ∷ ls) ts))
    ((l.Lacks → ⊥) × Tells ls (t ∷ ts))

-- the last test of a line: what it tells where it fails, and where it holds; and the rest
pub telling : {b : Bool} {A R : Type 0} → (b ≡ false → A) → (b ≡ true → A → ⊥) → (b ≡ true → R) → (b ≡ false → A) × (b ≡ true → (A → ⊥) × R)
telling f n r = (f, λ e. (n e, r e))

-- the code of tests that tell the lines is that of the first line that applies
told_first : (ls : List Line) (ts : List Check) → Tells ls ts → (n : ℕ) → first ts ≡ n → (n ≡ 0 → ⊥) → First ls n
told_first [] [] w n e z = absurd (z (sym e))
told_first [] (t ∷ ts) w n e z = absurd w
told_first (l ∷ ls) [] w n e z = absurd (z (sym e))
told_first (l ∷ ls) (t ∷ ts) w n e z = on (eqb t.code l.code)
    (λ b.
    let v : (t.holds ≡ false → l.Lacks) × (t.holds ≡ true → Tells (l ∷ ls) ts) = rw b at w in
    on t.holds
    (λ h. told_first (l ∷ ls) ts (v.1 h) n (rw h at e) z)
    (λ h. inl (sym (eqb-true t.code l.code b) ∙ (rw h at e), v.0 h)))
    (λ b.
    let v : (l.Lacks → ⊥) × Tells ls (t ∷ ts) = rw b at w in
    inr (v.0, told_first ls (t ∷ ts) v.1 n e z))

-- and where all hold none applies
told_clear : (ls : List Line) (ts : List Check) → Tells ls ts → All ts → Clear ls
told_clear [] ts w a = tt
told_clear (l ∷ ls) [] w a = (w.0, told_clear ls [] w.1 a)
told_clear (l ∷ ls) (t ∷ ts) w a = on (eqb t.code l.code)
    (λ b.
    let v : (t.holds ≡ false → l.Lacks) × (t.holds ≡ true → Tells (l ∷ ls) ts) = rw b at w in
    told_clear (l ∷ ls) ts (v.1 a.0) a.1)
    (λ b.
    let v : (l.Lacks → ⊥) × Tells ls (t ∷ ts) = rw b at w in
    (v.0, told_clear ls (t ∷ ts) v.1 a))

-- ---------- where no line applies none is the first; and one only is

pub clear_none : (ls : List Line) (n : ℕ) → Clear ls → First ls n → ⊥
clear_none [] n k f = f
clear_none (l ∷ ls) n k (inl f) = k.0 f.1
clear_none (l ∷ ls) n k (inr f) = clear_none ls n k.1 f.1

pub clear_below : (ls : List Line) (n : ℕ) → Clear ls → Applies ls n → ⊥
clear_below [] n k f = f
clear_below (l ∷ ls) n k (inl f) = k.0 f.1
clear_below (l ∷ ls) n k (inr f) = clear_below ls n k.1 f

pub first_one : (ls : List Line) (n k : ℕ) → First ls n → First ls k → n ≡ k
first_one [] n k f g = absurd f
first_one (l ∷ ls) n k (inl f) (inl g) = sym f.0 ∙ g.0
first_one (l ∷ ls) n k (inl f) (inr g) = absurd (g.0 f.1)
first_one (l ∷ ls) n k (inr f) (inl g) = absurd (f.0 g.1)
first_one (l ∷ ls) n k (inr f) (inr g) = first_one ls n k f.1 g.1

-- ---------- a machine whose tests tell the lines of its source

-- what a machine owes, for `Upholds`: Inv are the source's invariants
pub record Owed {m : Machine} (o : Sourced m) (Inv : o.Source → Type 0) (Good : m.State → Type 0) : Type 0 where
  pub onto : (y : o.Transition) → (x : m.Step) × (o.label x ≡ y)
  -- the source alone: its transitions keep the invariants, a transition goes where no line of the table applies, and else
  -- nowhere or past the limit, to one state after it and with one log
  pub inductive : Inductive o Inv
  pub goes : (y : o.Transition) (a : o.Source) → Inv a → Clear (o.lines a y) → (to : o.Source) × o.Moves a y to
  pub clear : (y : o.Transition) (a to : o.Source) → Inv a → o.Moves a y to → (Applies (o.lines a y) code.full → ⊥) → Clear (o.lines a y)
  pub moves_one : (y : o.Transition) (a p q : o.Source) → Inv a → o.Moves a y p → o.Moves a y q → p ≡ q
  pub hands_one : (y : o.Transition) (a : o.Source) (es fs : List m.Entry) → Inv a → o.HandsOut a y es → o.HandsOut a y fs → es ≡ fs
  -- the two together
  pub inv : (s : m.State) → Good s → Inv (o.abs s)
  pub tells : (s : m.State) (x : m.Step) → Good s → Tells (o.lines (o.abs s) (o.label x)) (m.tests s x)
  pub moves : (s : m.State) (x : m.Step) → Good s → Accepted m s x → o.Moves (o.abs s) (o.label x) (o.abs (m.next s x))
  pub logs : (s : m.State) (x : m.Step) → Good s → Accepted m s x → o.HandsOut (o.abs s) (o.label x) (m.logs s x)
  pub good : (s : m.State) (x : m.Step) → Good s → Accepted m s x → Good (m.next s x)
  pub abs_tells : (s t : m.State) → Good s → Good t → o.abs s ≡ o.abs t → s ≡ t

module _ {m : Machine} (o : Sourced m) (Inv : o.Source → Type 0) (Good : m.State → Type 0) (w : Owed o Inv Good) where
  pub complete : Complete o Inv
  complete =
      record {
        clear_leads = λ a y i k. let t = w.goes y a i k in record { to = t.0; moves = t.1; below = clear_below (o.lines a y) code.full k };
        leads_clear = λ a y i e. w.clear y a e.to i e.moves e.below;
      }

  module _ (s : m.State) (x : m.Step) (g : Good s) where
    abbrev ls : List Line
    ls = o.lines (o.abs s) (o.label x)

    accepted_clear : Accepted m s x → Clear ls
    accepted_clear a = told_clear ls (m.tests s x) (w.tells s x g) a

    code_reason : (c : ℕ) → code_of m s x ≡ c → (c ≡ 0 → ⊥) → Reason o (o.abs s) (o.label x) c
    code_reason c e z = told_first ls (m.tests s x) (w.tells s x g) c e z

    accepted_enabled : Accepted m s x → Enabled o s x
    accepted_enabled a = complete.clear_leads (o.abs s) (o.label x) (w.inv s g) (accepted_clear a)

    enabled_accepted : Enabled o s x → Accepted m s x
    enabled_accepted e = on (eqb (code_of m s x) 0)
        (λ b. code_accepted m s x (eqb-true (code_of m s x) 0 b))
        (λ b. absurd (clear_none ls (code_of m s x)
        (complete.leads_clear (o.abs s) (o.label x) (w.inv s g) e) (code_reason (code_of m s x) refl (eqb-false (code_of m s x) 0 b))))

    reason_code : (c : ℕ) → Reason o (o.abs s) (o.label x) c → (code_of m s x ≡ c) × (c ≡ 0 → ⊥)
    reason_code c r =
        let z : code_of m s x ≡ 0 → ⊥ = λ e. clear_none ls c (accepted_clear (code_accepted m s x e)) r in
        let q = first_one ls (code_of m s x) c (code_reason (code_of m s x) refl z) r in
        (q, λ e. z (q ∙ e))

  pub upholds : Upholds o Good
  upholds =
      record {
        onto = w.onto;
        accepted_enabled = accepted_enabled;
        enabled_accepted = enabled_accepted;
        code_reason = λ s x c g. code_reason s x g c;
        reason_code = λ s x c g. reason_code s x g c;
        accepted_moves = w.moves;
        accepted_post = λ s x to g a v. w.moves_one (o.label x) (o.abs s) to (o.abs (m.next s x)) (w.inv s g) v (w.moves s x g a);
        accepted_logs = w.logs;
        accepted_only_logs = λ s x es g a h. w.hands_one (o.label x) (o.abs s) es (m.logs s x) (w.inv s g) h (w.logs s x g a);
        accepted_safe = λ s x g a. w.inductive.safe (o.label x) (o.abs s) (o.abs (m.next s x)) (w.inv s g) (w.moves s x g a);
        accepted_good = w.good;
        abs_tells = w.abs_tells;
      }
