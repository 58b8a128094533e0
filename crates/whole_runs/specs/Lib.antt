pub mod Copies
pub mod Costs
pub mod Histories
pub mod Notes
pub mod NotesViews
pub mod Pokes
pub mod Runs
