pub mod SameBytes
mod SplitWords
pub mod DigitRuns
