pub mod Names
pub mod Commands
pub mod Asked
pub mod Passed
pub mod Ranges
