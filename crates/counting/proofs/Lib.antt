-- what the functions' proofs cite
pub mod Moved
pub mod Arms
pub mod Stepping
pub mod Writes
-- the machine and its source
pub mod Sounds
pub mod Kept
pub mod Carried
pub mod Lines
pub mod Posts
pub mod Inductive
pub mod Refines
-- demand 3, and the tables
pub mod Demands
pub mod Refuted
pub mod Tabled
pub mod Settled
