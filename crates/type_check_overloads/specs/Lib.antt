pub mod Candidates
pub mod Parts
