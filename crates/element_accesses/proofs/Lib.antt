mod Following
pub mod Meaning
mod Noting
mod Worked
