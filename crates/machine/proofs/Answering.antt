-- The single step's answer as a function gives it: a refusal, an accepted step, a step of this kind. Assumes nothing.
use mathlib.Core.Path.{◌≡◌, refl, ◌∙◌}
use mathlib.Core.Bool.{true}
use mathlib.Core.List.{List}
use mathlib.Core.Option.{some}
use Prim.Native.Nat.{ℕ, ◌≤◌}
use native.Mathlib.Nat.{zero-add}
use native.Mathlib.Omega.{arith}
use borrow.Author.Tests.{ne_eqb}
use lib.ListN.{length}
use Rattle.rows.specs.Stores.{Laid}
use Rattle.rows.specs.Walk.{pieces}
use Rattle.rows.proofs.Stores.{laid_whole, puts_over}
use Rattle.machine.specs.Machine.{Machine, code_of}
use Rattle.machine.specs.Single.{Single, handed_back, single, Stepper, InNumbers, told, Answers, Applied, Singled, quietly}
use Rattle.machine.proofs.Singles.{single_refused, single_accepted}

module _ {m : Machine} (p : Stepper m) where
  -- a refusal: the state is handed back and the log stays
  back : (s : m.State) (o : Single m) (l : List ℕ) (c : ℕ) → o ≡ handed_back c s → Answers p o l (told s 0 c) l
  back s o l c e = rw e (record { answer = refl; log = refl })

  -- ---------- a step that logs nothing

  module _ (s : m.State) (x : m.Step) (r : InNumbers m.State) where
    pub quiet_refused : (a : ℕ) → a ≡ code_of m s x → (a ≡ 0 → ⊥) → r ≡ told s 0 a → r ≡ quietly p s x
    quiet_refused a e n q = q ∙ rw (quietly, ← e, ne_eqb a 0 n)

  module _ (s : m.State) (x : m.Step) (l : List ℕ) (r : InNumbers m.State) where
    module _ (room : p.room ≤ length l) (safe : p.sound s ≡ true) where
      pub refused : (c : ℕ) → code_of m s x ≡ c → (c ≡ 0 → ⊥) → r ≡ told s 0 c → Applied p s x l r l
      refused c e n q = rw q (back s (single m p.sound p.room s (some x) l) l c (single_refused m p.sound p.room s x l room safe c e n))

      -- an accepted step puts what it logs over the front of the log
      pub accepted : (n : ℕ) (l' : List ℕ) → code_of m s x ≡ 0 → length (pieces p.bytes (m.logs s x)) ≤ p.room
          → Laid l 0 (pieces p.bytes (m.logs s x)) n l' → r ≡ told (m.next s x) n 0 → Applied p s x l r l'
      accepted n l' z short k q =
          let bs = pieces p.bytes (m.logs s x) in
          let fits : length bs ≤ length l = omega arith in
          let laid = laid_whole l 0 bs n l' (rw (zero-add (length bs)) fits) k in
          rw (q, single_accepted m p.sound p.room s x l room safe z)
          (record { answer = rw (laid.0, zero-add (length bs)); log = laid.1 ∙ puts_over l bs fits })

  -- ---------- a step of this kind

  module _ (s : m.State) (x v : p.Any) (l : List ℕ) (r : InNumbers m.State) (e : x ≡ v) where
    pub own_step : (y : m.Step) (l' : List ℕ) → p.own v ≡ some y → Applied p s y l r l' → Singled p s x l r l'
    own_step y l' q a = rw (e, q) a
