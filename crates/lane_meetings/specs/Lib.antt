pub mod Partings
pub mod Pending
