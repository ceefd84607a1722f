pub mod Carried
pub mod Settled
