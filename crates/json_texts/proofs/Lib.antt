pub mod Listing
pub mod Plain
mod WorkedRows
