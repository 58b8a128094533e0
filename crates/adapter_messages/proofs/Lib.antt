mod Lists
mod Marks
mod Needs
mod WorkedRows
