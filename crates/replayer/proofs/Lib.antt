-- The proofs of the replayer, in reading order. Assumes nothing.
pub mod Behind
pub mod Rooms
pub mod Four
pub mod ByKind
pub mod Demands
pub mod Settles
pub mod Tabled
pub mod Refuted
pub mod Settled
