pub mod Front
pub mod Operators
pub mod Words
pub mod Said
