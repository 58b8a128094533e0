mod FrameWays
