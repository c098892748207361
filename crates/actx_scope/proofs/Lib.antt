pub mod Adds
pub mod Insides
pub mod Patterns
pub mod BodyFinds
pub mod Skips
pub mod Knots
pub mod Totals
