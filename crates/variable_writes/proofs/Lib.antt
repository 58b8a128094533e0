mod Rows
mod Worked
