pub mod Arguments
pub mod Operands
