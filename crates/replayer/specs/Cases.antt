-- The bench cases of the scope, P1 to P12, each a row: the file, the lengths of both buffers, the code and place answered, what is written to each. One
-- claim over the table proves them: proofs/Tabled.antt. Written by bench/cases/write.py. Assumes nothing.
use Rattle.std.specs.Prelude.{◌≡◌, Bool, true, ◌&&◌, List, [], ◌∷◌, ℕ, eqb, length, replicate}
use Rattle.rows.specs.Bytes.{alike}
use Rattle.rows.specs.Stores.{over}
use Rattle.rows.specs.Walk.{every}
use Rattle.machine.specs.Rest.{Rested}
use Rattle.replayer.specs.Replay.{replay_of}

pub record Case : Type 0 where
  pub file : List ℕ
  pub log_room : ℕ
  pub image_room : ℕ
  pub code : ℕ
  pub place : ℕ
  pub log : List ℕ
  pub image : List ℕ

abbrev pub row : List ℕ → ℕ → ℕ → ℕ → ℕ → List ℕ → List ℕ → Case
row file log_room image_room code place log image =
    record { file = file; log_room = log_room; image_room = image_room; code = code; place = place; log = log; image = image }

-- a buffer before: so many bytes 170
abbrev pub before : ℕ → List ℕ
before room = replicate room 170

-- the answer is the row's: code, place, both lengths, and both whole buffers
abbrev pub meets : Case → Bool
meets c =
    let a : Rested = replay_of c.file (before c.log_room) (before c.image_room) in
    eqb a.code c.code && (eqb a.place c.place && (eqb a.logged (length c.log) && (eqb a.imaged (length c.image)
    && (alike a.log (over c.log (before c.log_room)) && alike a.image (over c.image (before c.image_room))))))

-- no clients: gathered length 0 equals the count 0, so the turn to responding is accepted
abbrev pub p01a : Case
p01a =
    row (1 ∷ 0 ∷ 4 ∷ 1 ∷ 0 ∷ 1 ∷ 5 ∷ []) 13 515 0 1
    ([])
    (0 ∷ 0 ∷ 1 ∷ 0 ∷ 0 ∷ [])

-- no clients: length 0 is not below 0, so combiner_skip finds its cursor wrong
abbrev pub p01b : Case
p01b =
    row (1 ∷ 0 ∷ 4 ∷ 1 ∷ 0 ∷ 1 ∷ 4 ∷ []) 13 515 13 0
    ([])
    (0 ∷ 0 ∷ 0 ∷ 0 ∷ 0 ∷ [])

-- no clients: both go_to steps in one file, idx 0 equals the count 0 too, back to collecting
abbrev pub p01c : Case
p01c =
    row (1 ∷ 0 ∷ 6 ∷ 1 ∷ 0 ∷ 1 ∷ 5 ∷ 1 ∷ 8 ∷ []) 23 515 0 2
    ([])
    (0 ∷ 0 ∷ 0 ∷ 0 ∷ 0 ∷ [])

-- a lock of width 0 is outside the limits
abbrev pub p02_width_0 : Case
p02_width_0 =
    row (1 ∷ 0 ∷ 6 ∷ 2 ∷ 0 ∷ 0 ∷ 0 ∷ 0 ∷ 7 ∷ []) 3 515 5 0
    ([])
    ([])

-- the least width, no steps: the fresh lock with one cell
abbrev pub p02_width_1 : Case
p02_width_1 =
    row (1 ∷ 0 ∷ 6 ∷ 2 ∷ 1 ∷ 0 ∷ 0 ∷ 0 ∷ 7 ∷ []) 3 515 0 0
    ([])
    (0 ∷ 1 ∷ 0 ∷ 0 ∷ 0 ∷ 7 ∷ 0 ∷ 0 ∷ 0 ∷ 0 ∷ 0 ∷ 0 ∷ [])

-- the greatest width, no steps: the fresh lock with sixteen cells
abbrev pub p02_width_16 : Case
p02_width_16 =
    row (1 ∷ 0 ∷ 6 ∷ 2 ∷ 16 ∷ 0 ∷ 0 ∷ 0 ∷ 7 ∷ []) 3 515 0 0
    ([])
    (0 ∷ 1 ∷ 0 ∷ 0 ∷ 0 ∷ 7 ∷ 0 ∷ 0 ∷ 0 ∷ 0 ∷ 0 ∷ 0 ∷ 0 ∷ 0 ∷ 0 ∷ 0 ∷ 0 ∷ 0 ∷ 0 ∷ 0 ∷ 0 ∷ 0 ∷ 0 ∷ 0 ∷ 0 ∷ 0 ∷ 0 ∷ 0 ∷ 0 ∷ 0 ∷ 0 ∷ 0 ∷ 0 ∷ 0 ∷ 0 ∷ 0 ∷ 0 ∷ 0 ∷ 0 ∷ 0 ∷ 0 ∷ 0 ∷ 0 ∷ 0 ∷ 0 ∷ 0 ∷ 0 ∷ 0 ∷ 0 ∷ 0 ∷ 0 ∷ 0 ∷ 0 ∷ 0 ∷ 0 ∷ 0 ∷ 0 ∷ [])

-- a lock of width 17 is outside the limits
abbrev pub p02_width_17 : Case
p02_width_17 =
    row (1 ∷ 0 ∷ 6 ∷ 2 ∷ 17 ∷ 0 ∷ 0 ∷ 0 ∷ 7 ∷ []) 3 515 5 0
    ([])
    ([])

-- one client asks, the combiner gathers, turns and answers, the client takes its answer; the answered element stays in the image
abbrev pub p03 : Case
p03 =
    row (1 ∷ 0 ∷ 30 ∷ 1 ∷ 1 ∷ 10 ∷ 1 ∷ 0 ∷ 0 ∷ 0 ∷ 0 ∷ 7 ∷ 0 ∷ 0 ∷ 0 ∷ 42 ∷ 1 ∷ 3 ∷ 1 ∷ 5 ∷ 9 ∷ 6 ∷ 0 ∷ 0 ∷ 0 ∷ 7 ∷ 0 ∷ 0 ∷ 0 ∷ 99 ∷ 2 ∷ 2 ∷ 0 ∷ []) 53 515 0 5
    (9 ∷ 0 ∷ 0 ∷ 0 ∷ 0 ∷ 7 ∷ 0 ∷ 0 ∷ 0 ∷ 99 ∷ [])
    (0 ∷ 0 ∷ 0 ∷ 0 ∷ 0 ∷ 0 ∷ 0 ∷ 0 ∷ 0 ∷ 0 ∷ 0 ∷ 0 ∷ 0 ∷ 0 ∷ 0 ∷ 0 ∷ 0 ∷ 0 ∷ 0 ∷ 0 ∷ 0 ∷ 0 ∷ 0 ∷ 0 ∷ 0 ∷ 1 ∷ 1 ∷ 1 ∷ 1 ∷ 0 ∷ 0 ∷ 0 ∷ 7 ∷ [])

-- combiner_skip is allowed with the slot set: the request stays stored, the element is absent
abbrev pub p04 : Case
p04 =
    row (1 ∷ 0 ∷ 15 ∷ 1 ∷ 1 ∷ 10 ∷ 1 ∷ 0 ∷ 0 ∷ 0 ∷ 0 ∷ 7 ∷ 0 ∷ 0 ∷ 0 ∷ 42 ∷ 1 ∷ 4 ∷ []) 23 515 0 2
    ([])
    (1 ∷ 0 ∷ 0 ∷ 0 ∷ 7 ∷ 1 ∷ 0 ∷ 0 ∷ 0 ∷ 7 ∷ 0 ∷ 0 ∷ 0 ∷ 42 ∷ 0 ∷ 0 ∷ 0 ∷ 0 ∷ 0 ∷ 0 ∷ 0 ∷ 0 ∷ 0 ∷ 0 ∷ 1 ∷ 0 ∷ 0 ∷ 1 ∷ 0 ∷ 0 ∷ 0 ∷ 0 ∷ 0 ∷ [])

-- the client waits, but its slot is still set
abbrev pub p05 : Case
p05 =
    row (1 ∷ 0 ∷ 16 ∷ 1 ∷ 1 ∷ 10 ∷ 1 ∷ 0 ∷ 0 ∷ 0 ∷ 0 ∷ 7 ∷ 0 ∷ 0 ∷ 0 ∷ 42 ∷ 2 ∷ 2 ∷ 0 ∷ []) 23 515 14 1
    ([])
    (1 ∷ 0 ∷ 0 ∷ 0 ∷ 7 ∷ 1 ∷ 0 ∷ 0 ∷ 0 ∷ 7 ∷ 0 ∷ 0 ∷ 0 ∷ 42 ∷ 0 ∷ 0 ∷ 0 ∷ 0 ∷ 0 ∷ 0 ∷ 0 ∷ 0 ∷ 0 ∷ 0 ∷ 1 ∷ 0 ∷ 0 ∷ 0 ∷ [])

-- P3 with id 8 in the fourth step: the element holds 7; the state before that step stands, request gathered, slot still set
abbrev pub p06 : Case
p06 =
    row (1 ∷ 0 ∷ 30 ∷ 1 ∷ 1 ∷ 10 ∷ 1 ∷ 0 ∷ 0 ∷ 0 ∷ 0 ∷ 7 ∷ 0 ∷ 0 ∷ 0 ∷ 42 ∷ 1 ∷ 3 ∷ 1 ∷ 5 ∷ 9 ∷ 6 ∷ 0 ∷ 0 ∷ 0 ∷ 8 ∷ 0 ∷ 0 ∷ 0 ∷ 99 ∷ 2 ∷ 2 ∷ 0 ∷ []) 53 515 15 3
    ([])
    (1 ∷ 0 ∷ 0 ∷ 0 ∷ 7 ∷ 0 ∷ 0 ∷ 0 ∷ 0 ∷ 0 ∷ 0 ∷ 0 ∷ 0 ∷ 0 ∷ 0 ∷ 0 ∷ 0 ∷ 0 ∷ 0 ∷ 0 ∷ 0 ∷ 0 ∷ 0 ∷ 0 ∷ 1 ∷ 1 ∷ 0 ∷ 1 ∷ 1 ∷ 0 ∷ 0 ∷ 0 ∷ 7 ∷ [])

-- an announced reader holds cell 0 at 1, so the writer's check there finds it not zero
abbrev pub p07a : Case
p07a =
    row (1 ∷ 0 ∷ 13 ∷ 2 ∷ 1 ∷ 0 ∷ 0 ∷ 0 ∷ 7 ∷ 2 ∷ 5 ∷ 0 ∷ 1 ∷ 1 ∷ 1 ∷ 2 ∷ []) 33 515 16 2
    ([])
    (1 ∷ 1 ∷ 0 ∷ 0 ∷ 0 ∷ 7 ∷ 1 ∷ 0 ∷ 0 ∷ 1 ∷ 1 ∷ 0 ∷ [])

-- the announced reader can't finish either: the lock is locked by the pending writer
abbrev pub p07b : Case
p07b =
    row (1 ∷ 0 ∷ 14 ∷ 2 ∷ 1 ∷ 0 ∷ 0 ∷ 0 ∷ 7 ∷ 2 ∷ 5 ∷ 0 ∷ 1 ∷ 1 ∷ 2 ∷ 6 ∷ 0 ∷ []) 33 515 12 2
    ([])
    (1 ∷ 1 ∷ 0 ∷ 0 ∷ 0 ∷ 7 ∷ 1 ∷ 0 ∷ 0 ∷ 1 ∷ 1 ∷ 0 ∷ [])

-- width 2 and one check: the writer's cursor is 1, not 2
abbrev pub p08a : Case
p08a =
    row (1 ∷ 0 ∷ 12 ∷ 2 ∷ 2 ∷ 0 ∷ 0 ∷ 0 ∷ 7 ∷ 1 ∷ 1 ∷ 1 ∷ 2 ∷ 1 ∷ 3 ∷ []) 33 515 13 2
    ([])
    (1 ∷ 1 ∷ 0 ∷ 0 ∷ 0 ∷ 7 ∷ 1 ∷ 1 ∷ 0 ∷ 0 ∷ 0 ∷ 0 ∷ 0 ∷ 0 ∷ 0 ∷ [])

-- width 2 and two checks: the writer withdraws the record 7 and holds the guard
abbrev pub p08b : Case
p08b =
    row (1 ∷ 0 ∷ 14 ∷ 2 ∷ 2 ∷ 0 ∷ 0 ∷ 0 ∷ 7 ∷ 1 ∷ 1 ∷ 1 ∷ 2 ∷ 1 ∷ 2 ∷ 1 ∷ 3 ∷ []) 43 515 0 4
    (5 ∷ 1 ∷ 0 ∷ 0 ∷ 0 ∷ 7 ∷ [])
    (1 ∷ 0 ∷ 0 ∷ 0 ∷ 0 ∷ 0 ∷ 0 ∷ 0 ∷ 1 ∷ 0 ∷ 0 ∷ 0 ∷ 0 ∷ 0 ∷ 0 ∷ [])

-- a fresh counting machine has no counter
abbrev pub p09 : Case
p09 =
    row (1 ∷ 0 ∷ 3 ∷ 3 ∷ 1 ∷ 3 ∷ []) 13 515 12 0
    ([])
    (0 ∷ 0 ∷ 0 ∷ 0 ∷ 0 ∷ 0 ∷ 0 ∷ [])

-- one ref stands, so the count is not zero
abbrev pub p10a : Case
p10a =
    row (1 ∷ 0 ∷ 11 ∷ 3 ∷ 5 ∷ 1 ∷ 0 ∷ 0 ∷ 0 ∷ 5 ∷ 1 ∷ 3 ∷ 1 ∷ 2 ∷ []) 33 515 16 2
    (5 ∷ 2 ∷ 0 ∷ 0 ∷ 0 ∷ 5 ∷ [])
    (1 ∷ 0 ∷ 0 ∷ 0 ∷ 5 ∷ 1 ∷ 1 ∷ [])

-- a ref stands, but it carries 5 and not 6
abbrev pub p10b : Case
p10b =
    row (1 ∷ 0 ∷ 15 ∷ 3 ∷ 5 ∷ 1 ∷ 0 ∷ 0 ∷ 0 ∷ 5 ∷ 1 ∷ 3 ∷ 5 ∷ 4 ∷ 0 ∷ 0 ∷ 0 ∷ 6 ∷ []) 33 515 17 2
    (5 ∷ 2 ∷ 0 ∷ 0 ∷ 0 ∷ 5 ∷ [])
    (1 ∷ 0 ∷ 0 ∷ 0 ∷ 5 ∷ 1 ∷ 1 ∷ [])

-- thread 0 reaches place 5, thread 1 cancels with it: the thread at 5 is logged first, then the mover
abbrev pub p11 : Case
p11 =
    row (1 ∷ 0 ∷ 42 ∷ 4 ∷ 2 ∷ 0 ∷ 2 ∷ 1 ∷ 0 ∷ 2 ∷ 2 ∷ 0 ∷ 2 ∷ 2 ∷ 0 ∷ 2 ∷ 1 ∷ 1 ∷ 2 ∷ 2 ∷ 1 ∷ 2 ∷ 2 ∷ 1 ∷ 2 ∷ 2 ∷ 1 ∷ 2 ∷ 2 ∷ 0 ∷ 2 ∷ 2 ∷ 0 ∷ 2 ∷ 1 ∷ 1 ∷ 2 ∷ 2 ∷ 1 ∷ 2 ∷ 2 ∷ 0 ∷ 2 ∷ 2 ∷ 0 ∷ []) 133 515 0 13
    (2 ∷ 1 ∷ 1 ∷ 2 ∷ 1 ∷ 0 ∷ 2 ∷ 1 ∷ 1 ∷ [])
    (1 ∷ 0 ∷ 0 ∷ 0 ∷ [])

-- after b0 alone: thread 0 at place 1
abbrev pub p12a : Case
p12a =
    row (1 ∷ 0 ∷ 6 ∷ 4 ∷ 2 ∷ 0 ∷ 2 ∷ 1 ∷ 0 ∷ []) 13 515 0 1
    ([])
    (0 ∷ 0 ∷ 1 ∷ 0 ∷ [])

-- b0 and the cycle: thread 1 has flipped twice, thread 0 is at place 1 again, the image is that after b0
abbrev pub p12b : Case
p12b =
    row (1 ∷ 0 ∷ 42 ∷ 4 ∷ 2 ∷ 0 ∷ 2 ∷ 1 ∷ 0 ∷ 2 ∷ 2 ∷ 0 ∷ 2 ∷ 2 ∷ 0 ∷ 2 ∷ 1 ∷ 1 ∷ 2 ∷ 2 ∷ 1 ∷ 2 ∷ 2 ∷ 1 ∷ 2 ∷ 2 ∷ 1 ∷ 2 ∷ 2 ∷ 0 ∷ 2 ∷ 2 ∷ 0 ∷ 2 ∷ 2 ∷ 0 ∷ 2 ∷ 1 ∷ 1 ∷ 2 ∷ 2 ∷ 1 ∷ 2 ∷ 2 ∷ 1 ∷ []) 133 515 0 13
    (2 ∷ 1 ∷ 1 ∷ 2 ∷ 1 ∷ 1 ∷ [])
    p12a.image

abbrev pub cases : List Case
cases = p01a ∷ p01b ∷ p01c ∷ p02_width_0 ∷ p02_width_1 ∷ p02_width_16 ∷ p02_width_17 ∷ p03 ∷ p04 ∷ p05 ∷ p06 ∷ p07a ∷ p07b ∷ p08a ∷ p08b ∷ p09 ∷ p10a ∷ p10b ∷ p11 ∷ p12a ∷ p12b ∷ []

abbrev pub Tabled : Type 0
Tabled = every (λ i c. meets c) 0 cases ≡ true
