mod Appending
pub mod Counted
mod DoneLines
mod FunctionLists
mod GoingTo
mod JudgedEntries
mod KeptNumbers
mod LogLists
mod MadeAnew
pub mod NothingLogged
pub mod Rows
pub mod StopNumbers
mod TermLists
pub mod WorkedEntries
pub mod WorkedRestarts
