pub mod WordLists
pub mod Gained
pub mod Phases
pub mod Statuses
pub mod Refusals
pub mod Told
pub mod LowTrees
