pub mod Makes
pub mod Typed
pub mod Changes
pub mod Indices
pub mod Rows
pub mod Beside
pub mod Steps
pub mod Results
