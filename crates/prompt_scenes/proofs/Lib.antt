pub mod AnswersMean
mod Entries
