pub mod Limited
pub mod Rows
pub mod LineValues
pub mod Remaining
pub mod Lines
pub mod Parameters
