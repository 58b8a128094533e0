pub mod Alike
pub mod Fits
pub mod Indices
pub mod OwnTasks
