pub mod Points
pub mod Placed
pub mod Masked
pub mod MaskedStep
pub mod Stands
pub mod Shown
pub mod Law
