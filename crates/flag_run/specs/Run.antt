-- What the rest of a flag file comes to. Assumes nothing.
use Rattle.std.specs.Prelude.{Bool, List, ℕ}
use Rattle.machine.specs.Rest.{Rested}
use Rattle.schedule.specs.Running.{Runner, rest_made}
use Rattle.flag.specs.Flag.{fresh_of}
use Rattle.flag.specs.Running as machine

abbrev pub runner : Runner
runner = machine.runner

-- the rest of a file from a place on, replayed from the machine that its parameters make; 5 where they make none
abbrev pub rest_of_file : List ℕ → ℕ → ℕ → Bool → List ℕ → List ℕ → Rested
rest_of_file f from threads value log image = rest_made runner (fresh_of threads value).code (fresh_of threads value).state f from log image
