pub mod Runs
pub mod Comments
pub mod Digits
pub mod NumberParts
pub mod MarkTables
pub mod FirstPiece
pub mod PlaceSteps
pub mod Lexed
pub mod Laws
pub mod ReadLoop
mod Rows
