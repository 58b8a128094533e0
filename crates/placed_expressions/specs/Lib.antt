pub mod Placed
pub mod Refusals
