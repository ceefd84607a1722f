-- what the functions' proofs cite
pub mod Filling
pub mod Writes
-- what was written is read back; what each contract settles
pub mod Back
pub mod Settled
