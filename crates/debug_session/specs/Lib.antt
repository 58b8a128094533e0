pub mod Bounds
pub mod Goals
pub mod Moves
pub mod Sessions
pub mod Stops
pub mod Tables
