pub mod Pieces
pub mod TapeSteps
pub mod Tapes
