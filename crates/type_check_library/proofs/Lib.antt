pub mod CalledValues
pub mod GivenValues
pub mod NamedCalls
pub mod RemovedValues
