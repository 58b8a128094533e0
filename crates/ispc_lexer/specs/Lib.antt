pub mod Options
pub mod Views
pub mod Numbers
pub mod Pieces
pub mod Steps
pub mod Source
pub mod Refusal
