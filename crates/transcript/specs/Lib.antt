pub mod Answered
pub mod Endings
pub mod Gathering
pub mod Lines
pub mod Order
