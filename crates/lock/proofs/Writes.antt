-- How long entries and images are, and an image laid down: the head, and the cells behind it. Assumes nothing.
use mathlib.Core.Path.{◌≡◌, refl, ◌∙◌}
use mathlib.Core.List.{List}
use Prim.Native.Nat.{ℕ, ◌+◌, ◌*◌, ◌≤◌, ◌<◌}
use native.Mathlib.Omega.{arith}
use lib.ListN.{length, take, length-append, length-take}
use Rattle.rows.specs.Stores.{Laid}
use Rattle.rows.specs.Walk.{pieces}
use Rattle.rows.proofs.Walks.{pieces_even, at_most_lem}
use Rattle.rows.proofs.Stores.{none_laid, laid_then}
use Rattle.rows.proofs.Laying.{pieces_long}
use Rattle.schedule.specs.Limits as limit
use Rattle.schedule.specs.declared.steps.LockStep.{LockStep}
use Rattle.schedule.specs.declared.steps.LockStep.TheVariants.{ExcStart, ExcCheckCount, ExcFinish, ExcRelease, SharedStart, SharedFinish, SharedRelease}
use Rattle.lock.specs.Lock.{zero_cell, logs}
use Rattle.lock.specs.Image.{entry_bytes, head_bytes, cell_bytes, in_use, image_bytes}
use Rattle.lock.specs.declared.state.State.{State}

-- a step logs one entry at most
pub logs_short : (s : State) (x : LockStep) → length (pieces entry_bytes (logs s x)) ≤ limit.entry
logs_short s ExcStart = omega arith
logs_short s ExcCheckCount = omega arith
logs_short s ExcFinish = omega arith
logs_short s (ExcRelease t) = omega arith
logs_short s (SharedStart r) = omega arith
logs_short s (SharedFinish r) = omega arith
logs_short s (SharedRelease r t) = omega arith

-- ---------- the image

module _ (s : State) (l : List ℕ) (n : ℕ) (used : n ≡ in_use s.head.width) (few : n ≤ limit.width) (long : length s.cells ≡ limit.width) where
  image_length : length (image_bytes s) ≡ length (head_bytes s.head) + 3 * n
  image_length =
      let c = pieces_long cell_bytes zero_cell s.cells n (omega arith) (λ v. refl) in
      rw (← used) (length-append (head_bytes s.head) (pieces cell_bytes (take n s.cells)) ∙ omega arith)

  pub image_short : length l < length (head_bytes s.head) + 3 * n → Laid l 0 (image_bytes s) 0 l
  image_short h = none_laid l 0 (image_bytes s) (omega (arith, image_length))

  module _ (fits : length (head_bytes s.head) + 3 * n ≤ length l) (a : ℕ) (k : List ℕ) (head : Laid l 0 (head_bytes s.head) a k) where
    pub image_laid : (r : ℕ) (l' : List ℕ) → Laid k a (pieces cell_bytes (take n s.cells)) r l' → Laid l 0 (image_bytes s) r l'
    image_laid r l' d =
        let i = image_length in
        laid_then l 0 (head_bytes s.head) (pieces cell_bytes (take (in_use s.head.width) s.cells)) a k r l' (omega arith) head (rw (← used) d)

-- the image of any state fits: no more cells than the row has are in use
pub image_small : (s : State) → length (image_bytes s) ≤ limit.image
image_small s =
    let cells = take (in_use s.head.width) s.cells in
    let long : length cells ≤ limit.width = simp length-take (omega (arith, at_most_lem limit.width s.head.width)) in
    let bytes : length (pieces cell_bytes cells) ≡ length cells * 3 = pieces_even cell_bytes 3 (λ c. refl) cells in
    let both = length-append (head_bytes s.head) (pieces cell_bytes cells) in
    omega arith
