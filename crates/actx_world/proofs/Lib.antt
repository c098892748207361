pub mod Oracles
pub mod Facts
pub mod CallRows
pub mod EachMove
pub mod Runs
pub mod KeptCalls
pub mod KeptRuns
pub mod LastSteps
