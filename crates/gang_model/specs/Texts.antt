pub mod Text
pub mod Spellings
pub mod CommandText
pub mod Transcript
pub mod InputText
pub mod RunRefusals
pub mod Run
pub mod Endings
