pub mod Divisors
pub mod Numbers
