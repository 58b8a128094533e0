pub mod Steps
pub mod Formed
pub mod Counted
pub mod Pending
pub mod Naming
pub mod Shares
pub mod Tallies
