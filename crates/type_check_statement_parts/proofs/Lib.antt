pub mod InOrder
pub mod LabelWords
pub mod SingleSteps
pub mod Singles
pub mod Switches
