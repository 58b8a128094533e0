pub mod DeclaredLists
pub mod Functions
pub mod Growth
pub mod Passing
pub mod Sequences
pub mod Segments
