pub mod Bytes
pub mod Stores
pub mod Walk
pub mod Mask
