pub mod Going
pub mod Points
pub mod Texts
pub mod Writing
