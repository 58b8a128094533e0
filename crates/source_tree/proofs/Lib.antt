pub mod ArgumentRows
pub mod StatementRows
