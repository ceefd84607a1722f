-- A move from one thread's place, also from a place that no sound state has. Assumes nothing.
use Rattle.std.specs.Prelude.{ℕ, ◌≡◌, ◌<◌, true, leb, Result, Ok, Err}
use Rattle.machine.specs.Move.{move_code}
use Rattle.machine.specs.Check.{first}
use Rattle.machine.specs.Refusals.{number}
use Rattle.machine.specs.declared.refusal.Refusal.{Refusal}
use Rattle.schedule.specs.Limits as limit
use Rattle.flag.specs.Flag.{inside_tests, busy_tests}
use Rattle.flag.specs.Sound.{sound}
use Rattle.flag.specs.declared.state.State.{State}

-- its code: a place over 6 is no thread's. Where it leads is `went`, which leaves such a place as it is
abbrev pub may_move : ℕ → ℕ
may_move p = move_code (busy_tests p) (leb p 6)

-- the index of thread k in the row; where the flag has no such thread the refusal is that of its test
abbrev pub Indexed : State → ℕ → Result ℕ Refusal → Type 0
Indexed s k (Ok i) = (i ≡ k) × (i < limit.threads) × (0 ≡ first (inside_tests s.threads k))
Indexed s k (Err why) = sound s ≡ true → number why ≡ first (inside_tests s.threads k)
