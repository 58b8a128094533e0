pub mod Boxes
pub mod Views
