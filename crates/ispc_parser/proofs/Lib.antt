pub mod Items
pub mod SourceSound
pub mod SourceComplete
pub mod Whole
