-- what the functions' proofs cite
pub mod Moved
pub mod Stepping
pub mod Writes
pub mod Walking
-- the machine and its source
pub mod Loop
pub mod Counts
pub mod Offers
pub mod Offerer
pub mod Sounds
pub mod Kept
pub mod Carried
pub mod Lines
pub mod Posts
pub mod Ends
pub mod Wanders
pub mod Inductive
pub mod Refines
-- demand 3, and the tables
pub mod Debts
pub mod Demands
pub mod Refuted
pub mod Tabled
pub mod Settled
