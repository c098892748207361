pub mod Causes
pub mod Files
pub mod Streams
pub mod Tapes
pub mod Devices
