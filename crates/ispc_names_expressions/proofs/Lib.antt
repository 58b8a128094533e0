pub mod ArgumentFaults
pub mod DomainHeads
