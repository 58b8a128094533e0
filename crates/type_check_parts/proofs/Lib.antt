pub mod Counted
pub mod Declaring
pub mod Indices
pub mod InRows
pub mod Judging
pub mod Named
pub mod Wanted
