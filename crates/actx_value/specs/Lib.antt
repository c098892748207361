pub mod Limits
pub mod Messages
pub mod Operators
pub mod Texts
pub mod Truth
pub mod TextIndex
pub mod Laws
