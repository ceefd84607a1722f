-- A step applied in place to a sound state, where the code's own tests and changes do not show by themselves what the definition says: a thread that
-- begins its flip, and one that is in none and can't go on. Assumes nothing.
use mathlib.Core.Path.{◌≡◌, refl, ◌∙◌}
use mathlib.Core.Bool.{true}
use mathlib.Core.List.{List}
use Prim.Native.Nat.{ℕ}
use Rattle.machine.specs.Apply.{Accepts, Refuses}
use Rattle.machine.specs.Check.{first}
use Rattle.machine.specs.Machine.{code_of}
use Rattle.machine.specs.Refusals.{number}
use Rattle.machine.specs.declared.refusal.Refusal.{Refusal}
use Rattle.machine.proofs.Refusing.{number_nonzero}
use Rattle.machine.proofs.Fair.{Fair}
use Rattle.machine.proofs.Applied.{refuses, accepts_quiet}
use Rattle.schedule.specs.declared.steps.FlagStep.{FlagStep}
use Rattle.schedule.specs.declared.steps.FlagStep.TheVariants.{Begin, Move}
use Rattle.flag.specs.Flag.{flag, inside_tests, idle_tests, busy_tests, place, with_place}
use Rattle.flag.specs.Image.{entry_bytes}
use Rattle.flag.specs.Moved.{may_move}
use Rattle.flag.specs.Sound.{sound}
use Rattle.flag.specs.declared.state.State.{State}
use Rattle.flag.proofs.Moved.{inside_first, move_first}

-- a step x of thread k, which is one of the flag's and has the index i in the row
module _ (s : State) (x : FlagStep) (k : ℕ) (e : 0 ≡ first (inside_tests s.threads k)) (i : ℕ) (same : i ≡ k) (l : List ℕ) where
  module _ (why : Refusal) (f : number why ≡ may_move (place s i)) (safe : sound s ≡ true) where
    idle : number why ≡ code_of flag s (Move k)
    idle = (rw same at f) ∙ move_first s k safe ∙ inside_first s k e (busy_tests (place s k))

    pub move_refused : x ≡ Move k → Refuses flag entry_bytes s x l why s l
    move_refused v =
        let stays : Fair flag s (Move k) (number why) s = record { own = idle; went = λ z. absurd (number_nonzero why z); stayed = λ _. refl } in
        refuses flag entry_bytes s x (Move k) v l why s stays

  module _ (f : 0 ≡ first (idle_tests (place s i))) where
    begins : 0 ≡ code_of flag s (Begin k)
    begins = (rw same at f) ∙ inside_first s k e (idle_tests (place s k))

    pub begin_accepted : x ≡ Begin k → (at : ℕ) → Accepts flag entry_bytes s x l at at (with_place s i 1 s.pending s.value) l
    begin_accepted v at =
        let goes : Fair flag s (Begin k) 0 (with_place s i 1 s.pending s.value) = record { own = begins; went = λ _. rw same; stayed = λ n. absurd (n refl) } in
        accepts_quiet flag entry_bytes s x (Begin k) v l (with_place s i 1 s.pending s.value) goes refl at
