pub mod Scopes
pub mod Spans
