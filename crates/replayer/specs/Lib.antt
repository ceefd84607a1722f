pub mod Replay
pub mod Kinds
pub mod Demands
pub mod Cases
pub mod Imposters
