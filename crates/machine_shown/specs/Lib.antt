pub mod Frames
pub mod Seen
pub mod ShownWords
