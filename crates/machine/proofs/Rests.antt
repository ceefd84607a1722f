-- How many steps the replay loop reads, and how long what it logs may be. Assumes nothing.
use mathlib.Core.Path.{◌≡◌, refl, ap}
use mathlib.Core.List.{List, [], ◌∷◌}
use Prim.Native.Nat.{ℕ, zero, suc, ◌+◌, ◌*◌, ◌≤◌}
use native.Mathlib.Nat.{suc-mul}
use native.Mathlib.Omega.{arith}
use lib.Dec.{eqb}
use lib.ListN.{length, length-append}
use Rattle.rows.specs.Walk.{pieces}
use Rattle.rows.proofs.Cases.{on}
use Rattle.rows.proofs.Walks.{pieces_append}
use Rattle.machine.specs.Machine.{Machine, code_of}
use Rattle.machine.specs.Replay.{replay}
use Rattle.machine.specs.Loop.{steps_from}

pub length_steps : {S : Type 0} (step_at : List ℕ → ℕ → S) (size_of : S → ℕ) (f : List ℕ) (at n : ℕ) → length (steps_from step_at size_of f at n) ≡ n
unfolding steps_from
length_steps step_at size_of f at zero = refl
length_steps step_at size_of f at (suc n) = ap suc (length_steps step_at size_of f (at + size_of (step_at f at)) n)

-- where no step logs more than `most` bytes, a replay logs no more than so many for each step
module _ (m : Machine) (bytes : m.Entry → List ℕ) (most : ℕ) (short : (q : m.State) (x : m.Step) → length (pieces bytes (m.logs q x)) ≤ most) where
  pub replay_short : (q : m.State) (k : ℕ) (xs : List m.Step) → length (pieces bytes (replay m q k xs).log) ≤ length xs * most
  unfolding replay
  replay_short q k [] = omega arith
  replay_short q k (x ∷ xs) =
      let r = replay m (m.next q x) (k + 1) xs in
      let new = pieces bytes (m.logs q x) in
      on (eqb (code_of m q x) 0)
      (λ e. rw (e, pieces_append bytes (m.logs q x) r.log, length-append new (pieces bytes r.log))
      (omega (arith, suc-mul (length xs) most, short q x, replay_short (m.next q x) (k + 1) xs)))
      (λ e. rw e (omega arith))
