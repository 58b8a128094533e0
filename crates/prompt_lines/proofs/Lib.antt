mod HeldTexts
pub mod Prefixes
mod WorkedLines
mod WorkedHeads
mod Places
