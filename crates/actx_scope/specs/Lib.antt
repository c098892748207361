pub mod Bodies
pub mod Places
pub mod Walks
pub mod Holds
pub mod Checks
