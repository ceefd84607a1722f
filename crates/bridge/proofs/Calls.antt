-- What a call leaves, at each of its ways out. Assumes nothing.
use mathlib.Core.Path.{◌≡◌, refl, ap, ◌∙◌}
use mathlib.Core.List.{List}
use Prim.Native.Nat.{ℕ, ◌≤◌, ◌<◌}
use native.Mathlib.Omega.{arith}
use borrow.Author.Tests.{lt-ltb, le-ltb}
use lib.ListN.{length}
use Rattle.rows.specs.Stores.{Laid}
use Rattle.rows.proofs.Stores.{laid_whole, puts_over}
use Rattle.machine.specs.Codes as code
use Rattle.machine.specs.Refusals.{verdict_code}
use Rattle.schedule.specs.Answers.{Leaves}
use Rattle.schedule.specs.declared.answer.Answer.{Answer}
use Rattle.replayer.specs.Replay.{replay_of}
use Rattle.bridge.specs.Called.{three, called, CallLeaves}

module _ (f log image figures : List ℕ) where
  pub no_room : length figures < 12 → (r : ℕ) → r ≡ code.room → CallLeaves (called f log image figures) r log image figures
  unfolding called
  no_room h r e = rw (lt-ltb (length figures) 12 h) (record { code = e; log = refl; image = refl; figures = refl })

  pub replayed : 12 ≤ length figures → (a : Answer) (log' image' : List ℕ) → Leaves (replay_of f log image) a log' image'
      → (k : ℕ) (figures' : List ℕ) → Laid figures 0 (three a.place a.logged a.imaged) k figures'
      → CallLeaves (called f log image figures) a.code log' image' figures'
  unfolding called
  replayed h a log' image' d k figures' w =
      let e = d.answer in
      let bytes = three a.place a.logged a.imaged in
      let laid = (laid_whole figures 0 bytes k figures' (omega arith) w).1 in
      rw (le-ltb (length figures) 12 h)
      (record { code = rw e; log = d.log; image = d.image; figures = laid ∙ puts_over figures bytes (omega arith) ∙ rw e })
