pub mod Codes
pub mod PackedCalls
pub mod Programs
pub mod Cells
