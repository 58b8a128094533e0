mod Numbered
mod StopNumbers
mod WatchedTexts
