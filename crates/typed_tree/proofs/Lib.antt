pub mod StatementRows
