-- The proofs of the language of schedules, in reading order. Assumes nothing.
-- what the proofs of the functions cite
pub mod Opening
pub mod LengthTable
pub mod InTable
pub mod MeasureTests
pub mod PastEnd
pub mod CountLoop
-- what each answer says of the file's bytes, and that the bytes settle it
pub mod MeasureSays
pub mod PlacesSay
pub mod FrontSays
pub mod Given
-- files and schedules are one to one
pub mod Numbers
pub mod Languages
pub mod OneStep
pub mod AllSteps
pub mod FrontBytes
pub mod Canonical
-- what the machines' crates take from here
pub mod LoopSteps
pub mod Rests
pub mod Running
pub mod Applying
pub mod Settled
