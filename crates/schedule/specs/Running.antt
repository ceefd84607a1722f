-- What a run of a file's steps promises, and what the rest of a file with its parameters comes to, for any machine and its language. Assumes nothing.
use Rattle.std.specs.Prelude.{◌≡◌, Bool, cond, List, ℕ, ◌+◌, ◌*◌, ◌≤◌, eqb, Ok}
use Rattle.machine.specs.Machine.{Machine}
use Rattle.machine.specs.Replay.{replay}
use Rattle.machine.specs.Loop.{steps_from, Formed, Left, left}
use Rattle.machine.specs.Rest.{Rested, untouched, rest_of}
use Rattle.machine.specs.Codes as code
use Rattle.schedule.specs.Limits as limit
use Rattle.schedule.specs.Language.{Language, step_at, size_of}
use Rattle.schedule.specs.Counting.{counted_of}
use Rattle.schedule.specs.Answers.{rest_from}

-- as the count says, n steps of this kind stand from this place on
abbrev pub Counts : ℕ → List ℕ → ℕ → ℕ → Type 0
Counts kind f from n = counted_of kind f from ≡ Ok n

-- a machine with its language, the bytes of its entries and of its states, and the states that a run may start from
pub record Runner : Type 1 where
  pub machine : Machine
  pub language : Language machine.Step
  pub bytes : machine.Entry → List ℕ
  pub image : machine.State → List ℕ
  pub Good : machine.State → Type 0

module _ (p : Runner) where
  -- n steps stand in the file from `from` on, the state is one that a run may start from, and the log has room for them from `used` on
  pub record Runnable (f : List ℕ) (from n : ℕ) (q : p.machine.State) (used room : ℕ) : Type 0 where
    pub formed : Formed (step_at p.language) (size_of p.language) f from n
    pub safe : p.Good q
    pub fits : used + n * limit.entry ≤ room

  -- a run leaves what the replay of these steps leaves, with its entries in the log from `used` on
  pub record Ended (f : List ℕ) (from n : ℕ) (q : p.machine.State) (log : List ℕ) (used : ℕ) (e : Left p.machine) : Type 0 where
    pub ended : e ≡ left p.bytes log used (replay p.machine q 0 (steps_from (step_at p.language) (size_of p.language) f from n))

  -- what a run leaves: its code and place, the state, and the log up to the place after its last entry
  abbrev pub left_by : ℕ → ℕ → p.machine.State → List ℕ → ℕ → Left p.machine
  left_by c k s log upto = record { code = c; place = k; state = s; log = log; upto = upto }

  -- steps replayed from a state, into the caller's buffers
  abbrev pub run_steps : p.machine.State → List p.machine.Step → List ℕ → List ℕ → Rested
  run_steps s xs log image = rest_of p.machine p.bytes p.image limit.entry limit.image s xs log image

  -- the rest of the file, replayed from a state
  abbrev pub rest_run : p.machine.State → List ℕ → ℕ → List ℕ → List ℕ → Rested
  rest_run s f from log image = rest_from p.machine p.language p.bytes p.image s f from log image

  -- the same from any state, tested first: one that is not sound is 10
  abbrev pub rest_tested : (p.machine.State → Bool) → p.machine.State → List ℕ → ℕ → List ℕ → List ℕ → Rested
  rest_tested sound s f from log image = cond (sound s) (rest_run s f from log image) (untouched code.unsound 0 log image)

  -- bad parameters write nothing; from the machine that good ones make the rest of the file is replayed
  abbrev pub rest_made : ℕ → p.machine.State → List ℕ → ℕ → List ℕ → List ℕ → Rested
  rest_made c s f from log image = cond (eqb c 0) (rest_run s f from log image) (untouched c 0 log image)
