-- What any bytes are answered, with any two buffers: the scope's codes over the decoded file. Assumes nothing.
use Rattle.std.specs.Prelude.{cond, List, ℕ, ◌+◌, ltb, length}
use Rattle.machine.specs.Rest.{Rested, untouched}
use Rattle.schedule.specs.Limits as limit
use Rattle.machine.specs.Codes as code
use Rattle.schedule.specs.Front.{fault_code, fault_place}
use Rattle.schedule.specs.Running.{run_steps}
use Rattle.schedule.specs.Schedule.{Schedule, of_flat, of_lock, of_counting, of_flag, Decoded, faulty, good, decode}
use Rattle.schedule.specs.declared.steps.Params.{Params}
use Rattle.schedule.specs.declared.steps.Params.TheVariants.{Flat, Lock, Counting, Flag}
use Rattle.flat.specs.Flat as flat
use Rattle.lock.specs.Lock as lock
use Rattle.counting.specs.Counting as counting
use Rattle.flag.specs.Flag as flag
use Rattle.flat_run.specs.Run as flatRun
use Rattle.lock_run.specs.Run as lockRun
use Rattle.counting_run.specs.Run as countingRun
use Rattle.flag_run.specs.Run as flagRun

-- a schedule is replayed from the fresh machine of its kind and parameters; 8 where a buffer is too short for it
abbrev pub replayed : Schedule → List ℕ → List ℕ → Rested
replayed (of_flat n xs) log image = run_steps flatRun.runner (flat.fresh_state n) xs log image
replayed (of_lock w t xs) log image = run_steps lockRun.runner (lock.fresh_state w t) xs log image
replayed (of_counting xs) log image = run_steps countingRun.runner counting.fresh_state xs log image
replayed (of_flag n v xs) log image = run_steps flagRun.runner (flag.fresh_state n v) xs log image

-- a file with a fault is refused with its code and place, 1 to 7
abbrev pub answered : Decoded → List ℕ → List ℕ → Rested
answered (faulty x) log image = untouched (fault_code x) (fault_place x) log image
answered (good s) log image = replayed s log image

unfoldable pub replay_of : List ℕ → List ℕ → List ℕ → Rested
replay_of f log image = answered (decode f) log image

-- an input over the largest file has a body over its limit
abbrev pub input_of : List ℕ → List ℕ → List ℕ → Rested
input_of f log image = cond (ltb (limit.body + 3) (length f)) (untouched code.body 0 log image) (replay_of f log image)

-- the rest of a file behind its front, by its kind
abbrev pub opened_as : List ℕ → Params → ℕ → List ℕ → List ℕ → Rested
opened_as f (Flat n) from log image = flatRun.rest_of_file f from n log image
opened_as f (Lock w t) from log image = lockRun.rest_of_file f from w t log image
opened_as f Counting from log image = countingRun.rest_of_file f from log image
opened_as f (Flag n v) from log image = flagRun.rest_of_file f from n v log image
