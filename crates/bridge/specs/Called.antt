-- What a call from another language leaves: a code, and the lent buffers. Assumes nothing.
use Rattle.std.specs.Prelude.{◌≡◌, cond, List, ◌++◌, ℕ, ltb, length}
use Rattle.rows.specs.Bytes.{big}
use Rattle.rows.specs.Stores.{over}
use Rattle.machine.specs.Rest.{Rested}
use Rattle.machine.specs.Codes as code
use Rattle.replayer.specs.Replay.{replay_of}

pub record Called : Type 0 where
  pub code : ℕ
  pub log : List ℕ
  pub image : List ℕ
  pub figures : List ℕ

-- three numbers of four bytes each
abbrev pub three : ℕ → ℕ → ℕ → List ℕ
three a b c = big 4 a ++ (big 4 b ++ big 4 c)

-- the place, and the lengths of what was written to the log and to the state buffer
abbrev pub figures_of : Rested → List ℕ
figures_of a = three a.place a.logged a.imaged

-- where these have no room nothing is done, and the answer is 8
unfoldable pub called : List ℕ → List ℕ → List ℕ → List ℕ → Called
called f log image figures =
    cond (ltb (length figures) 12) (record { code = code.room; log = log; image = image; figures = figures })
    (let a = replay_of f log image in record { code = a.code; log = a.log; image = a.image; figures = over (figures_of a) figures })

pub record CallLeaves (o : Called) (r : ℕ) (log' image' figures' : List ℕ) : Type 0 where
  pub code : r ≡ o.code
  pub log : log' ≡ o.log
  pub image : image' ≡ o.image
  pub figures : figures' ≡ o.figures
