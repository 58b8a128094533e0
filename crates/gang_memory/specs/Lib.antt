pub mod Recorded
pub mod Parts
pub mod Writes
pub mod Elements
pub mod Packed
pub mod ScalarWords
pub mod Ranges
pub mod Layouts
