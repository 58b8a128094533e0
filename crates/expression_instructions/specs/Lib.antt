pub mod Read
pub mod Values
