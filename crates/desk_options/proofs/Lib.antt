mod Building
mod FlagsRead
mod Parses
mod VerbsRead
mod Rows
