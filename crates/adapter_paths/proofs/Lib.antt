mod Names
mod WorkedRows
