pub mod Codes
pub mod LaneSights
pub mod Meanings
pub mod Names
pub mod Sights
