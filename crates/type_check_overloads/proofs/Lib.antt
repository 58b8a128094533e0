pub mod Parts
pub mod Possible
pub mod Prices
