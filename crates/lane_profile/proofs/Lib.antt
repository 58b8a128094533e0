mod Placing
mod Left
mod Frames
mod Touching
mod Running
mod Worked
