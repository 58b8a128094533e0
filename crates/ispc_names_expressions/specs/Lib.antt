pub mod Bounds
pub mod HeldStatements
pub mod MayStand
