pub mod Rows
pub mod Spans
pub mod VectorLanes
pub mod Joined
pub mod Members
pub mod Moves
pub mod LaneTests
pub mod FullMasks
