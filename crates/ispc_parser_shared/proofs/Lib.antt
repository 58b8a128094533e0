pub mod Fails
pub mod Tokens
pub mod SpecTokens
pub mod Lists
pub mod CommaLists
pub mod Lengths
