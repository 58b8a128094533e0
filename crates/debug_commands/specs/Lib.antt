pub mod Views
pub mod LineWords
pub mod TargetViews
pub mod CommandTable
