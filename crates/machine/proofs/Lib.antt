-- The laws of machines, in reading order. Assumes nothing.
-- one step, histories, a whole replay
pub mod Checks
pub mod Steps
pub mod Runs
pub mod Pasts
pub mod Replays
pub mod Multisets
-- what the functions' proofs cite: a moved record, the single step, the loop and the buffers
pub mod Moves
pub mod Refusing
pub mod Fair
pub mod Singles
pub mod Answering
pub mod Applied
pub mod Loops
pub mod Rests
pub mod Settled
-- a machine beside its source
pub mod Known
pub mod Reasons
pub mod Sourceds
-- an example to copy
pub mod Toy
