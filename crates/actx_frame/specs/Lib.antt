pub mod Begins
pub mod Machine
pub mod Frames
