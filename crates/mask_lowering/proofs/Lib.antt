pub mod Rows
pub mod Orders
pub mod Forms
pub mod Programs
