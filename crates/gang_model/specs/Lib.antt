pub mod Source
pub mod Names
pub mod Types
pub mod Running
pub mod Debugger
pub mod Texts
