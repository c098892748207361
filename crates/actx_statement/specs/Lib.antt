pub mod Holds
pub mod More
