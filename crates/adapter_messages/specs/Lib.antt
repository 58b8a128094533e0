pub mod Arguments
pub mod Counts
pub mod Faults
pub mod Messages
pub mod Names
pub mod Replies
