pub mod FirstNamed
pub mod LeastLines
pub mod Listed
