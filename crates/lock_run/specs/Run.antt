-- What the rest of a shift lock file comes to. Assumes nothing.
use Rattle.std.specs.Prelude.{List, ℕ}
use Rattle.machine.specs.Rest.{Rested}
use Rattle.schedule.specs.Running.{Runner, rest_made}
use Rattle.lock.specs.Lock.{fresh_of}
use Rattle.lock.specs.Running as machine

abbrev pub runner : Runner
runner = machine.runner

-- the rest of a file from a place on, replayed from the machine that its parameters make; 5 where they make none
abbrev pub rest_of_file : List ℕ → ℕ → ℕ → ℕ → List ℕ → List ℕ → Rested
rest_of_file f from width t log image = rest_made runner (fresh_of width t).code (fresh_of width t).state f from log image
