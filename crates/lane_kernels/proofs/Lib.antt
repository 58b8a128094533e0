pub mod VectorLanes
pub mod Scalars
pub mod ZeroDivisors
