mod Answered
mod FunctionLines
mod Functions
mod Refusing
