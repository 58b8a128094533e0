mod WordLists
mod LongLines
mod Assignments
