mod Rows
pub mod Parting
pub mod Noting
mod Numbered
mod Standing
pub mod Ends
pub mod Named
pub mod Worked
