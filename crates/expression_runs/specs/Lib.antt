pub mod Room
pub mod Machine
pub mod Correct
pub mod Bridge
pub mod Evaluated
pub mod Stacks
