pub mod Calls
pub mod Settled
