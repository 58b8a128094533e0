pub mod Heads
pub mod Labels
