mod FewerLanes
mod Keeping
mod LaneLists
mod Rows
mod SetTexts
mod Texts
