pub mod LineWords
pub mod Digits
