pub mod FramePast
pub mod Past
