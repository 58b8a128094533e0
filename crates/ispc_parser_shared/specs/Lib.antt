pub mod Front
pub mod SpecWords
pub mod Openings
pub mod Refusals
