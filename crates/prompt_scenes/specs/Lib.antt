pub mod Holding
pub mod FrameWatches
pub mod Conditions
pub mod Readings
pub mod SelectedFrame
pub mod Changes
pub mod Given
