pub mod Seen
pub mod Idle
pub mod IdleOperations
pub mod Inserted
