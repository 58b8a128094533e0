pub mod Bare
pub mod GangWidths
pub mod WrittenForms
mod WorkedForms
mod WorkedNumbered
