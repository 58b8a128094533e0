pub mod Numbers
pub mod Given
pub mod PassedValues
pub mod Parses
pub mod Rows
