-- Under interference no bound holds: P12's cycle of two threads, repeated, keeps thread 0 in one flip for as many moves as one likes. Assumes nothing.
use Prim.Native.Nat.{ℕ, zero, suc, ◌+◌, ◌≤◌}
use mathlib.Core.Path.{◌≡◌, refl, ◌∙◌}
use mathlib.Core.Bool.{Bool, true, false, not, ◌&&◌}
use mathlib.Core.List.{List, [], ◌∷◌, ◌++◌}
use native.Mathlib.Omega.{arith}
use lib.Dec.{eqb}
use borrow.Author.Tests.{eqb-false, not-true}
use Rattle.rows.proofs.Cases.{on, both_true, true_both}
use Rattle.machine.specs.Replay.{replay, AllAccepted, after}
use Rattle.machine.proofs.Replays.{zero_all}
use Rattle.machine.proofs.Pasts.{after_append, accepted_append}
use Rattle.schedule.specs.declared.steps.FlagStep.{FlagStep}
use Rattle.schedule.specs.declared.steps.FlagStep.TheVariants.{Begin, Move, Read}
use Rattle.flag.specs.Flag.{flag, fresh_state, place, next}
use Rattle.flag.specs.Refined.{moves_of, Wanders}
use Rattle.flag.specs.declared.state.State.{State}

-- ---------- thread k is in a flip all along

abbrev busy : ℕ → State → Bool
busy k s = not (eqb (place s k) 0)

abbrev always_busy : ℕ → State → List FlagStep → Bool
always_busy k s [] = busy k s
always_busy k s (x ∷ xs) = busy k s && always_busy k (next s x) xs

-- so it is after every part of the steps
never_idle : (k : ℕ) (s : State) (xs ys : List FlagStep) → always_busy k s (xs ++ ys) ≡ true → place (after flag s xs) k ≡ 0 → ⊥
never_idle k s [] [] t = eqb-false (place s k) 0 (not-true (eqb (place s k) 0) t)
never_idle k s [] (y ∷ ys) t = eqb-false (place s k) 0 (not-true (eqb (place s k) 0) (both_true (busy k s) (always_busy k (next s y) ys) t).0)
never_idle k s (x ∷ xs) ys t = never_idle k (next s x) xs ys (both_true (busy k s) (always_busy k (next s x) (xs ++ ys)) t).1

-- ---------- one schedule after the other

busy_append : (k : ℕ) (s : State) (xs ys : List FlagStep) → always_busy k s xs ≡ true → always_busy k (after flag s xs) ys ≡ true
    → always_busy k s (xs ++ ys) ≡ true
busy_append k s [] ys t u = u
busy_append k s (x ∷ xs) ys t u =
    let b = both_true (busy k s) (always_busy k (next s x) xs) t in
    true_both b.0 (busy_append k (next s x) xs ys b.1 u)

moves_append : (k : ℕ) (xs ys : List FlagStep) → moves_of k (xs ++ ys) ≡ moves_of k xs + moves_of k ys
moves_append k [] ys = omega arith
moves_append k (Begin j ∷ xs) ys = moves_append k xs ys
moves_append k (Move j ∷ xs) ys = on (eqb j k)
    (λ b. rw b (omega (arith, moves_append k xs ys)))
    (λ b. rw b (moves_append k xs ys))
moves_append k (Read j ∷ xs) ys = moves_append k xs ys

-- ---------- a cycle, repeated

abbrev times : ℕ → List FlagStep → List FlagStep
times zero xs = []
times (suc n) xs = xs ++ times n xs

-- steps that lead back to where they start, with k in its flip all along and at least one move of its own
module _ (s : State) (k : ℕ) (xs : List FlagStep) (a : AllAccepted flag s xs) (r : after flag s xs ≡ s)
    (b : always_busy k s xs ≡ true) (h : busy k s ≡ true) (m : 1 ≤ moves_of k xs) where
  all_times : (n : ℕ) → AllAccepted flag s (times n xs)
  all_times zero = tt
  all_times (suc n) = accepted_append flag s xs (times n xs) a (rw r (all_times n))

  back_times : (n : ℕ) → after flag s (times n xs) ≡ s
  back_times zero = refl
  back_times (suc n) = after_append flag s xs (times n xs) ∙ rw r (back_times n)

  busy_times : (n : ℕ) → always_busy k s (times n xs) ≡ true
  busy_times zero = h
  busy_times (suc n) = busy_append k s xs (times n xs) b (rw r (busy_times n))

  many_times : (n : ℕ) → n ≤ moves_of k (times n xs)
  many_times zero = omega arith
  many_times (suc n) = omega (arith, many_times n, moves_append k xs (times n xs))

  wanders : (n : ℕ) → Wanders s k n
  wanders n =
      record {
        steps = times n xs;
        accepted = all_times n;
        returns = back_times n;
        many = many_times n;
        never = λ ys zs e. never_idle k s ys zs (rw e at (busy_times n));
      }

-- ---------- P12: flag false, 2 threads, after b0: m0 m0 b1 m1 m1 m1 m0 m0 m0 b1 m1 m1

abbrev begun : State
begun = next (fresh_state 2 false) (Begin 0)

abbrev cycle : List FlagStep
cycle =
    Move 0 ∷ Move 0
    ∷ Begin 1 ∷ Move 1 ∷ Move 1 ∷ Move 1
    ∷ Move 0 ∷ Move 0 ∷ Move 0
    ∷ Begin 1 ∷ Move 1 ∷ Move 1
    ∷ []

cycle_accepted : AllAccepted flag begun cycle
unfolding replay
cycle_accepted = zero_all flag begun cycle refl

pub unbounded : (n : ℕ) → Wanders begun 0 n
unbounded = wanders begun 0 cycle cycle_accepted refl refl refl (omega arith)
