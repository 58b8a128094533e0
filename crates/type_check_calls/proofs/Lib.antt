pub mod CallParts
mod FunctionNames
pub mod Residuals
