pub mod Scope
pub mod NameFaults
pub mod Bindings
