mod Groups
mod Masking
pub mod Putting
mod Rows
mod Spelling
mod WorkedForms
mod WorkedItems
mod WorkedLanes
