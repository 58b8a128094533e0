pub mod Forms
pub mod Items
pub mod Shown
pub mod LaneShares
pub mod Moments
pub mod SourceLines
