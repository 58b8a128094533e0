pub mod Bodies
pub mod Collected
