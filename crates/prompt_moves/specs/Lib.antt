pub mod Breakpoints
pub mod Following
pub mod GivenMoves
pub mod Moments
pub mod Beginning
pub mod Noted
pub mod Pieces
