pub mod Parts
pub mod Folds
pub mod Levels
pub mod Sizes
pub mod Bodies
