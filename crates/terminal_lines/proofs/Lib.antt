mod WithoutCodes
