mod Accepted
pub mod Inputs
