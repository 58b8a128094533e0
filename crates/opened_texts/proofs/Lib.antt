pub mod Laws
mod Places
mod WorkedRows
