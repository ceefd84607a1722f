-- What the exported function promises settles its code and the lent buffers. Assumes nothing.
use mathlib.Core.Path.{◌≡◌}
use mathlib.Core.List.{List}
use Prim.Native.Nat.{ℕ}
use Rattle.rows.proofs.Settled.{settled}
use Rattle.bridge.specs.Called.{called, CallLeaves}

pub ladlecomet_replay_settled : (f log image figures : List ℕ) {r q : ℕ} {k m i j t u : List ℕ} → CallLeaves (called f log image figures) r k i t
    → CallLeaves (called f log image figures) q m j u → (r ≡ q) × (k ≡ m) × (i ≡ j) × (t ≡ u)
ladlecomet_replay_settled f log image figures a b =
    (settled a.code b.code, settled a.log b.log, settled a.image b.image, settled a.figures b.figures)
