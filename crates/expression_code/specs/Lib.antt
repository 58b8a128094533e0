pub mod Accepted
pub mod Code
pub mod ProgramRoom
