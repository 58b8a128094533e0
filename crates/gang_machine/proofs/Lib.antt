pub mod Agreeing
mod AnyLanes
pub mod Beginnings
mod BegunAgain
pub mod EntryArrays
mod Evaluating
pub mod FileWords
pub mod Finding
mod FrameLanes
mod FrameNames
mod FrameValues
pub mod FrameViews
pub mod HeadSizes
pub mod Keeping
mod LaneNumbers
mod Lasting
pub mod Limiting
mod NamedViews
pub mod Placing
pub mod PokedLengths
pub mod Poking
pub mod Positions
pub mod Recording
pub mod Seeing
pub mod Stepping
mod StoringNow
mod StoringPoints
mod TopDepth
