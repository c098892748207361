pub mod Words
pub mod Texts
pub mod Starts
pub mod Members
pub mod Opening
