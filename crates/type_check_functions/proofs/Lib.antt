pub mod Collecting
pub mod FunctionBodies
pub mod FunctionParts
pub mod Parameters
