pub mod CallLaws
pub mod Steps
