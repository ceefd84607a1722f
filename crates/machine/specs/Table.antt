-- Tables of small cases: what a row says, and when a machine answers as its rows do. Assumes nothing.
use Rattle.std.specs.Prelude.{ℕ, zero, suc, Bool, true, false, cond, not, ◌&&◌, List, [], ◌∷◌, eqb, length}
use Rattle.std.specs.Bool.{beq}
use Rattle.rows.specs.Bytes.{alike}
use Rattle.rows.specs.Walk.{every, pieces}
use Rattle.machine.specs.Codes as code
use Rattle.machine.specs.Check.{Check}
use Rattle.machine.specs.Machine.{Machine}
use Rattle.machine.specs.Replay.{Replayed, replay}

-- steps from a state: the code, the place, the image of the state that they lead to (that before the step refused), whether it is sound, as
-- the given one is, and the bytes that they log
pub record Case (m : Machine) : Type 0 where
  pub given : m.State
  pub steps : List m.Step
  pub code : ℕ
  pub place : ℕ
  pub image : List ℕ
  pub sound : Bool
  pub log : List ℕ

-- steps one after the other, one step that is accepted, and one that is refused
abbrev pub runs : {m : Machine} → m.State → List m.Step → ℕ → ℕ → List ℕ → List ℕ → Case m
runs s xs c place image log = record { given = s; steps = xs; code = c; place = place; image = image; sound = true; log = log }

abbrev pub does : {m : Machine} → m.State → m.Step → List ℕ → List ℕ → Case m
does s x image log = runs s (x ∷ []) code.accepted 1 image log

abbrev pub refuses : {m : Machine} → m.State → m.Step → ℕ → List ℕ → Case m
refuses s x c image = runs s (x ∷ []) c 0 image []

-- a step that is refused in a state that is not sound: only so can each test be seen by itself
abbrev pub refuses_unsound : {m : Machine} → m.State → m.Step → ℕ → List ℕ → Case m
refuses_unsound s x c image = record { given = s; steps = x ∷ []; code = c; place = 0; image = image; sound = false; log = [] }

-- a fresh machine asked for with these parameters: its code, and the image of what is answered
pub record Start (P : Type 0) : Type 0 where
  pub asked : P
  pub code : ℕ
  pub image : List ℕ

abbrev pub starts : {P : Type 0} → P → ℕ → List ℕ → Start P
starts p c image = record { asked = p; code = c; image = image }

-- ---------- the machine's answer is the row's

module _ (m : Machine) (sound : m.State → Bool) (image_bytes : m.State → List ℕ) (entry_bytes : m.Entry → List ℕ) where
  abbrev agrees : Case m → Replayed m → Bool
  agrees c r =
      (eqb r.code c.code && eqb r.place c.place)
      && (alike (image_bytes r.state) c.image && (beq (sound r.state) c.sound && alike (pieces entry_bytes r.log) c.log))

  -- the state that a row starts from is sound exactly if the one after it is
  abbrev pub right : Case m → Bool
  right c = beq (sound c.given) c.sound && agrees c (replay m c.given 0 c.steps)

  -- every row is right
  abbrev pub all_right : List (Case m) → Bool
  all_right cs = every (λ i c. right c) 0 cs

  -- every row is wrong: so the test looks at everything that a row has
  abbrev pub all_wrong : List (Case m) → Bool
  all_wrong cs = every (λ i c. not (right c)) 0 cs

  -- the code and the state that a fresh machine is answered with
  module _ {P : Type 0} (code_of : P → ℕ) (state_of : P → m.State) where
    abbrev started : Start P → Bool
    started r = eqb (code_of r.asked) r.code && alike (image_bytes (state_of r.asked)) r.image

    abbrev pub all_started : List (Start P) → Bool
    all_started rs = every (λ i r. started r) 0 rs

    abbrev pub none_started : List (Start P) → Bool
    none_started rs = every (λ i r. not (started r)) 0 rs

-- ---------- a table leaves nothing out

-- how many tests hold before the first that fails
abbrev pub held_before : List Check → ℕ
held_before [] = 0
held_before (c ∷ cs) = cond c.holds (suc (held_before cs)) 0

-- the test p of a row that is of one step
abbrev pub only_step : {X : Type 0} → (X → Bool) → List X → Bool
only_step p [] = false
only_step p (x ∷ []) = p x
only_step p (x ∷ (y ∷ ys)) = false

-- f holds of each number below n
abbrev pub every_below : ℕ → (ℕ → Bool) → Bool
every_below zero f = true
every_below (suc n) f = f n && every_below n f

module _ (m : Machine) (tag_of : m.Step → ℕ) where
  -- the row is of one step with this tag
  abbrev tagged : ℕ → Case m → Bool
  tagged t c = only_step (λ x. eqb (tag_of x) t) c.steps

  -- and i of its tests hold before the first that fails; all of them where it is accepted
  abbrev stops_at : ℕ → ℕ → Case m → Bool
  stops_at t i c = only_step (λ x. eqb (tag_of x) t && eqb (held_before (m.tests c.given x)) i) c.steps

  -- how many tests a row's step has
  abbrev tests_in : m.State → List m.Step → ℕ
  tests_in s [] = 0
  tests_in s (x ∷ xs) = length (m.tests s x)

  -- how many tests the steps with this tag have: as many as in the first row of the tag
  abbrev tests# : ℕ → List (Case m) → ℕ
  tests# t [] = 0
  tests# t (c ∷ cs) = cond (tagged t c) (tests_in c.given c.steps) (tests# t cs)

  -- the tags 1 to n each have a row that is accepted, and for each of their tests one that this test refuses
  abbrev pub leaves_nothing_out : ℕ → List (Case m) → Bool
  leaves_nothing_out n cs =
      every_below n (λ k. every_below (suc (tests# (suc k) cs)) (λ i. not (every (λ j c. not (stops_at (suc k) i c)) 0 cs)))
