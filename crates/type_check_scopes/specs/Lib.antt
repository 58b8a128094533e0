pub mod BuiltIns
pub mod Entries
pub mod Passings
pub mod Tables
