pub mod Here
pub mod Once
mod Putting
pub mod Silent
pub mod Splits
mod WorkedRows
