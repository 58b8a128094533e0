pub mod Frames
pub mod LaneDigits
pub mod Locals
pub mod Meant
pub mod Pieces
pub mod Stops
pub mod Writing
