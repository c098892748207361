pub mod Forms
pub mod BeginLaws
pub mod GroupLaws
pub mod EnterLaws
pub mod MachineLaws
pub mod FrameLaws
