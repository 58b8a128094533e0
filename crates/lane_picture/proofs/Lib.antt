pub mod SeenColumns
pub mod Trying
pub mod Counting
pub mod Telling
pub mod Watching
mod RowSpans
