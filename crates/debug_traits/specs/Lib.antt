pub mod Beginnings
pub mod Devices
pub mod Frames
pub mod Machines
