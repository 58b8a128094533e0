pub mod Segments
pub mod Sequences
pub mod Singles
