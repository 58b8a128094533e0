pub mod Touches
pub mod Counted
