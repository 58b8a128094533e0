pub mod Judging
pub mod ScopeSteps
pub mod InSequence
pub mod Compound
