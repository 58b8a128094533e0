mod Finding
mod WorkedCalls
