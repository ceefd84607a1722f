-- what the functions' proofs cite
pub mod Moved
pub mod Arms
pub mod Stepping
pub mod Zeros
pub mod Writes
-- the machine and its source
pub mod Phases
pub mod Plain
pub mod Filtered
pub mod Upheld
pub mod Changed
pub mod Sounds
pub mod Kept
pub mod Carried
pub mod Lines
pub mod Posts
pub mod Inductive
pub mod Refines
-- demand 3, and the tables
pub mod Demands
pub mod Exact
pub mod Refuted
pub mod Tabled
pub mod Settled
pub mod Paired
