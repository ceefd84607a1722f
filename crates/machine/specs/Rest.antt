-- A file's steps replayed into a caller's buffers: the room that is asked for, the log over the one, the image over the other. Assumes nothing.
use Rattle.std.specs.Prelude.{cond, List, ℕ, ◌*◌, ltb, length}
use Rattle.rows.specs.Stores.{over}
use Rattle.rows.specs.Walk.{pieces}
use Rattle.machine.specs.Codes as code
use Rattle.machine.specs.Machine.{Machine}
use Rattle.machine.specs.Replay.{Replayed, replay}

-- what is answered, and the two buffers
pub record Rested : Type 0 where
  pub code : ℕ
  pub place : ℕ
  pub logged : ℕ
  pub imaged : ℕ
  pub log : List ℕ
  pub image : List ℕ

-- codes 1 to 8 write to neither buffer
abbrev pub untouched : ℕ → ℕ → List ℕ → List ℕ → Rested
untouched c place log image = record { code = c; place = place; logged = 0; imaged = 0; log = log; image = image }

module _ (m : Machine) (bytes : m.Entry → List ℕ) (image_of : m.State → List ℕ) where
  abbrev pub finished : Replayed m → List ℕ → List ℕ → Rested
  finished r log image =
      let es = pieces bytes r.log in
      let i = image_of r.state in
      record { code = r.code; place = r.place; logged = length es; imaged = length i; log = over es log; image = over i image }

  -- 8 where the log is under `entry` bytes for each step, or the state buffer under `room`
  abbrev pub rest_of : ℕ → ℕ → m.State → List m.Step → List ℕ → List ℕ → Rested
  rest_of entry room s xs log image =
      cond (ltb (length log) (length xs * entry)) (untouched code.room 0 log image)
      (cond (ltb (length image) room) (untouched code.room 0 log image)
      (finished (replay m s 0 xs) log image))
