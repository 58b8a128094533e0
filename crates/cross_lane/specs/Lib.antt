pub mod Calls
pub mod Folds
pub mod EachLaws
pub mod AttemptLaws
