pub mod Views
pub mod Ranges
pub mod Arrays
pub mod Words
