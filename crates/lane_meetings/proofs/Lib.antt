pub mod Meeting
pub mod Counting
pub mod Ends
mod Worked
