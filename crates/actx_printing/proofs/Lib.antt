pub mod Lists
pub mod Injective
pub mod Found
