pub mod Moved
pub mod NamesOfAll
