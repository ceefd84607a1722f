-- The replay loop over a file's bytes: the steps that it reads, and what it leaves. Assumes nothing.
use Rattle.std.specs.Prelude.{ℕ, zero, suc, ◌+◌, ◌≤◌, List, [], ◌∷◌, length}
use Rattle.rows.specs.Stores.{puts}
use Rattle.rows.specs.Walk.{pieces}
use Rattle.machine.specs.Machine.{Machine}
use Rattle.machine.specs.Replay.{Replayed}

module _ {S : Type 0} (step_at : List ℕ → ℕ → S) (size_of : S → ℕ) where
  -- n steps of the file f from a place on, each as long as it says of itself
  unfoldable pub steps_from : List ℕ → ℕ → ℕ → List S
  steps_from f at zero = []
  steps_from f at (suc n) = step_at f at ∷ steps_from f (at + size_of (step_at f at)) n

  -- and they all lie in the file
  unfoldable pub Formed : List ℕ → ℕ → ℕ → Type 0
  Formed f at zero = Unit {0}
  Formed f at (suc n) = (at + size_of (step_at f at) ≤ length f) × Formed f (at + size_of (step_at f at)) n

-- what a run of the loop leaves: its answer, and the log's bytes up to the place after the last entry
pub record Left (m : Machine) : Type 0 where
  pub code : ℕ
  pub place : ℕ
  pub state : m.State
  pub log : List ℕ
  pub upto : ℕ

-- a replay whose entries go into the log l from w on
abbrev pub left : {m : Machine} → (m.Entry → List ℕ) → List ℕ → ℕ → Replayed m → Left m
left bytes l w r =
    record {
      code = r.code;
      place = r.place;
      state = r.state;
      log = puts l w (pieces bytes r.log);
      upto = w + length (pieces bytes r.log);
    }
