pub mod PatternLaws
pub mod ElementLaws
pub mod PatternSteps
pub mod StatementLaws
pub mod ClassLaws
pub mod LoopLaws
pub mod OfLaws
pub mod EndingLaws
