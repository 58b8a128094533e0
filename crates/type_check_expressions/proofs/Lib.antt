pub mod ArgumentLists
pub mod Residuals
pub mod TwoFaults
pub mod Calls
