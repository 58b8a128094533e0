pub mod Frames
pub mod Heads
pub mod Reading
pub mod Places
