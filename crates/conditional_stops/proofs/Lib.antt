pub mod Asked
pub mod Entries
pub mod Judged
pub mod Passing
pub mod Plain
mod WorkedRows
pub mod Steps
pub mod Changed
pub mod Sighted
mod Watched
mod Zipped
