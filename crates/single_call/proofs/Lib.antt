-- what the functions' proofs cite
pub mod Over
pub mod Choosing
-- what the crate above cites
pub mod Exporting
-- a refusal keeps the state's bytes; what each contract settles
pub mod Refusing
pub mod Settled
