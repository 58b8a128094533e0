pub mod Runs
pub mod Tries
pub mod Seen
pub mod Pictures
pub mod Watched
pub mod Rows
