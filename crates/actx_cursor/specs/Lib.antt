pub mod Counts
pub mod WordLists
pub mod Nests
