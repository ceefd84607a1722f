-- A step's tests in a sound state: the thread is there, its place is one of the loop's, and what the code tests decides the step's code. Assumes nothing.
use mathlib.Core.Path.{◌≡◌, refl, sym}
use mathlib.Core.Bool.{true, not, ◌&&◌}
use mathlib.Core.List.{List, ◌++◌}
use Prim.Native.Nat.{ℕ, ◌≤◌}
use native.Mathlib.Omega.{arith}
use borrow.Author.Tests.{eqb-true, eqb-false, ltb-true, ltb-false, leb-true, le-leb, not-true}
use lib.Dec.{eqb, ltb, leb}
use lib.ListN.{length, get_or-eq_default}
use Rattle.rows.specs.Walk.{every, many}
use Rattle.rows.proofs.Cases.{on, both_true}
use Rattle.rows.proofs.Walks.{every_at}
use Rattle.machine.specs.Check.{Check, first}
use Rattle.machine.proofs.Checks.{first_past}
use Rattle.machine.proofs.Moves.{move_code_lem}
use Rattle.schedule.specs.Limits as limit
use Rattle.flag.specs.Flag.{inside_tests, busy_tests, place}
use Rattle.flag.specs.Moved.{may_move}
use Rattle.flag.specs.Sound.{sound, place_sound, places_sound, handshake, at_second, at_store}
use Rattle.flag.specs.declared.state.State.{State}

-- ---------- what the test of a state says of its threads

zero_sound : (threads k : ℕ) → place_sound threads k 0 ≡ true
zero_sound threads k = on (ltb k threads) (λ b. rw b) (λ b. rw b)

entry_small : (threads k p : ℕ) → place_sound threads k p ≡ true → p ≤ 6
entry_small threads k p h = on (ltb k threads)
    (λ b. leb-true p 6 (rw b at h))
    (λ b. let z = eqb-true p 0 (rw b at h) in omega arith)

module _ (s : State) (safe : sound s ≡ true) where
  any_few : (not (eqb s.threads 0) ≡ true) × ((not (ltb limit.threads s.threads) && places_sound s) ≡ true)
  any_few = both_true (not (eqb s.threads 0)) (not (ltb limit.threads s.threads) && places_sound s) safe

  few_placed : (not (ltb limit.threads s.threads) ≡ true) × (places_sound s ≡ true)
  few_placed = both_true (not (ltb limit.threads s.threads)) (places_sound s) any_few.1

  placed_agreed : (every (place_sound s.threads) 0 s.places ≡ true) × (handshake s.pending (many at_second s.places) (many at_store s.places) ≡ true)
  placed_agreed =
      both_true (every (place_sound s.threads) 0 s.places) (handshake s.pending (many at_second s.places) (many at_store s.places)) few_placed.1

  pub any_threads : 1 ≤ s.threads
  any_threads = let n = eqb-false s.threads 0 (not-true (eqb s.threads 0) any_few.0) in omega arith

  pub few_threads : s.threads ≤ limit.threads
  few_threads = ltb-false limit.threads s.threads (not-true (ltb limit.threads s.threads) few_placed.0)

  pub pending_agrees : handshake s.pending (many at_second s.places) (many at_store s.places) ≡ true
  pending_agrees = placed_agreed.1

  -- behind the row every place reads 0
  pub entry_sound : (k : ℕ) → place_sound s.threads k (place s k) ≡ true
  entry_sound k = on (ltb k (length s.places))
      (λ b. every_at (place_sound s.threads) 0 s.places placed_agreed.0 k (ltb-true k (length s.places) b))
      (λ b. rw (get_or-eq_default s.places 0 (ltb-false k (length s.places) b)) (zero_sound s.threads k))

  pub place_small : (k : ℕ) → place s k ≤ 6
  place_small k = entry_small s.threads k (place s k) (entry_sound k)

-- ---------- the tests behind the first, that k is a thread

pub inside_first : (s : State) (k : ℕ) → 0 ≡ first (inside_tests s.threads k) → (more : List Check) → first more ≡ first (inside_tests s.threads k ++ more)
inside_first s k e more = sym (first_past (inside_tests s.threads k) more refl (sym e))

-- no place of a sound state is one that a move has to refuse
pub move_first : (s : State) (k : ℕ) → sound s ≡ true → may_move (place s k) ≡ first (busy_tests (place s k))
move_first s k safe = move_code_lem (busy_tests (place s k)) (leb (place s k) 6) (λ y. le-leb (place s k) 6 (place_small s safe k))
