pub mod Colours
pub mod Pages
