-- what the functions' proofs cite
pub mod Moved
pub mod Applied
pub mod Writes
pub mod Packing
pub mod Paired
pub mod Defaults
-- the machine and its source
pub mod Stages
pub mod Tests
pub mod Values
pub mod Elems
pub mod Maps
pub mod Flags
pub mod Unused
pub mod Sounds
pub mod Kept
pub mod Lines
pub mod Told
pub mod Posts
pub mod Upheld
pub mod Inductive
pub mod Refines
-- demand 3, and the tables
pub mod InTurn
pub mod Demands
pub mod Exact
pub mod Refuted
pub mod Tabled
pub mod Carried
pub mod Settled
