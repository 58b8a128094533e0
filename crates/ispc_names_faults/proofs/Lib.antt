pub mod ScopeSteps
pub mod Found
pub mod Segments
