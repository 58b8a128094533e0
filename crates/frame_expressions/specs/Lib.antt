pub mod Lanes
pub mod Meanings
pub mod Stores
