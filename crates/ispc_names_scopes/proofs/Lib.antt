pub mod Choices
pub mod Indexed
pub mod ScopeSites
pub mod NameIndex
