pub mod CallStates
mod Calls
mod Chains
mod Effects
mod FileVariables
mod Follows
mod Forms
mod Frames
pub mod GangStates
pub mod Gangs
pub mod InputRows
mod LaneValues
mod LeavingTasks
mod LocalIndices
mod PureCalls
mod PureExprs
pub mod PurePrograms
mod PureStmts
mod Simulation
mod TaskLists
mod Whole
mod WideStates
mod WideSteps
mod Words
