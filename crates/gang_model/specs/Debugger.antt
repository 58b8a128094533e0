pub mod Positions
pub mod Frames
pub mod Events
pub mod Debugger
