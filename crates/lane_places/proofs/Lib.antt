pub mod LanesAlike
mod Rows
mod StepEntries
mod TasksAhead
