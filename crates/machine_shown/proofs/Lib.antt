pub mod CallPlaces
pub mod FramePlaces
mod FrameSteps
pub mod PokedWords
pub mod ReadWords
pub mod SameWords
pub mod SeenVariables
mod SetRegions
pub mod SetWords
pub mod StepPlaces
mod TopWords
mod UnderFrames
pub mod Viewed
pub mod WordsRoom
