pub mod Stands
pub mod Counted
pub mod Ran
