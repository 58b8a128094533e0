pub mod Found
pub mod Views
pub mod StepRows
pub mod Rows
pub mod Touched
pub mod Shown
