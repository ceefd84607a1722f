-- what the functions' proofs cite
pub mod DigitCounts
pub mod Spelling
pub mod Shows
pub mod Ahead
pub mod Written
-- the numeral is the number's
pub mod Numerals
-- two answers computed, and what each contract settles
pub mod Sampled
pub mod Settled
