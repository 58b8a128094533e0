pub mod Patch
pub mod Outside
pub mod Runs
pub mod Whole
pub mod RoomOfWeight
pub mod LightStatements
pub mod RoomOfStatements
pub mod ProgramRoom
