mod Calling
mod Purity
mod Rows
mod Spreading
