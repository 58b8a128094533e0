pub mod Rows
pub mod Labels
pub mod Statements
pub mod Pointed
pub mod StepWords
