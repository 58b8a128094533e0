mod Fronts
pub mod OneProgram
