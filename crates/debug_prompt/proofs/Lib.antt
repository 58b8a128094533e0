mod PlainLines
mod WorkedLines
mod WorkedLists
mod WorkedNumbers
mod NoCommands
pub mod PrintedTargets
pub mod UnsetCommands
