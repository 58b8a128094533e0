mod WorkedDigits
