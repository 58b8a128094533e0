pub mod IndexVariables
pub mod NamesBefore
pub mod SignatureKeys
