pub mod BeginBounds
pub mod RoundWrites
pub mod BeginMoves
pub mod BeginValues
pub mod Opening
pub mod RoundSteps
