mod Onward
pub mod Touching
mod Worked
