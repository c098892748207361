pub mod Insides
pub mod Heads
