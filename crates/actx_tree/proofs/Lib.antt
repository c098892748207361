pub mod LevelEquations
pub mod SizeEquations
pub mod BodyEquations
pub mod StmtLevelEquations
pub mod StmtSizeEquations
pub mod StmtBodyEquations
pub mod Lists
mod Walk
