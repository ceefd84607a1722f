-- What each public function promises settles its answer and both buffers. Assumes nothing.
use mathlib.Core.Path.{◌≡◌}
use mathlib.Core.List.{List}
use Prim.Native.Nat.{ℕ}
use Rattle.schedule.specs.Answers.{Leaves}
use Rattle.schedule.specs.declared.answer.Answer.{Answer}
use Rattle.schedule.proofs.Settled.{leaves_settled}
use Rattle.replayer.specs.Replay.{replay_of, input_of}

pub replay_settled : (f log image : List ℕ) {r q : Answer} {k m i j : List ℕ} → Leaves (replay_of f log image) r k i → Leaves (replay_of f log image) q m j
    → (r ≡ q) × (k ≡ m) × (i ≡ j)
replay_settled f log image = leaves_settled (replay_of f log image)

pub replay_input_settled : (f log image : List ℕ) {r q : Answer} {k m i j : List ℕ} → Leaves (input_of f log image) r k i → Leaves (input_of f log image) q m j
    → (r ≡ q) × (k ≡ m) × (i ≡ j)
replay_input_settled f log image = leaves_settled (input_of f log image)
