pub mod ItemSteps
pub mod TableSteps
