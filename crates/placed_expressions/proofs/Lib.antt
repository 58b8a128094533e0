mod Functions
mod IndexedNames
mod Readings
mod Rows
mod Scopes
