-- What the rest of a flat combiner file comes to. Assumes nothing.
use Rattle.std.specs.Prelude.{List, ℕ}
use Rattle.machine.specs.Rest.{Rested}
use Rattle.schedule.specs.Running.{rest_made}
use Rattle.flat.specs.Flat.{fresh_of}
pub use Rattle.flat.specs.Running.{runner}

-- the rest of a file from a place on, replayed from the machine that its parameters make; 5 where they make none
abbrev pub rest_of_file : List ℕ → ℕ → ℕ → List ℕ → List ℕ → Rested
rest_of_file f from clients log image = rest_made runner (fresh_of clients).code (fresh_of clients).state f from log image
