pub mod Bindings
pub mod FunctionNames
pub mod Innermost
pub mod Names
pub mod Scopes
