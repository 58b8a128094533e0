pub mod Walks
pub mod LanesTold
