pub mod Beginning
pub mod Calls
pub mod Leaving
pub mod Stepping
