pub mod Until
pub mod GoingOn
