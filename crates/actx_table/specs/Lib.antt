pub mod Table
pub mod Globals
