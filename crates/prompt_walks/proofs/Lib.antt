mod LanesSoFar
