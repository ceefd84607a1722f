-- What the rest of a counting file comes to. Assumes nothing.
use Rattle.std.specs.Prelude.{List, ℕ}
use Rattle.machine.specs.Rest.{Rested}
use Rattle.schedule.specs.Running.{Runner, rest_run}
use Rattle.counting.specs.Counting.{fresh_state}
use Rattle.counting.specs.Running as machine

abbrev pub runner : Runner
runner = machine.runner

-- the rest of a file from a place on, replayed from a fresh machine
abbrev pub rest_of_file : List ℕ → ℕ → List ℕ → List ℕ → Rested
rest_of_file f from log image = rest_run runner fresh_state f from log image
