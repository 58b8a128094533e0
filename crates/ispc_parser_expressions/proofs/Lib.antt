pub mod Sound
pub mod Args
pub mod ArgsSound
pub mod Starts
pub mod Complete
pub mod ArgsComplete
pub mod Whole
pub mod Steps
