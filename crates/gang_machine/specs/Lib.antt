pub mod Again
pub mod FileWords
pub mod LaneNumbers
pub mod Machines
pub mod Nexts
pub mod Openings
pub mod Standings
pub mod Stored
