pub mod Merging
pub mod Declared
pub mod Keys
pub mod Collected
