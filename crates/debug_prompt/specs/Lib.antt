pub mod Printing
pub mod Doing
pub mod Lines
pub mod Taking
pub mod Listing
pub mod Written
