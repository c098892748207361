pub mod Local
pub mod LocalNames
pub mod LocalMembers
pub mod LocalPatterns
pub mod LocalStatements
pub mod LocalForms
pub mod LoopLaws
pub mod ExampleLaws
