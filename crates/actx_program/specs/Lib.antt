pub mod Ends
pub mod Statements
pub mod Trees
pub mod StatementReader
pub mod TreeReader
pub mod Laws
