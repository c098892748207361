pub mod Scalars
pub mod Utf8
pub mod Utf16
pub mod Texts
pub mod Quoted
pub mod Laws
