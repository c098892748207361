pub mod Reads
pub mod Quotes
pub mod Kinds
pub mod Items
pub mod Forms
