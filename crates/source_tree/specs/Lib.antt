pub mod Expressions
pub mod Tree
