pub mod Sequences
pub mod SegmentSequences
pub mod StatementsSound
pub mod StatementsComplete
