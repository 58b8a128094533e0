mod StopPieces
