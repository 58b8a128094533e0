pub mod Adding
pub mod CallsKept
pub mod ChangeRows
pub mod Differing
pub mod Ending
pub mod MomentTexts
pub mod MomentsNoted
pub mod NewWords
pub mod NotedSoFar
pub mod Numbers
pub mod Places
mod PlainRecord
pub mod RecordKept
pub mod RowsRead
pub mod Seeing
pub mod Telling
pub mod WorkedRows
mod WorkedWholes
