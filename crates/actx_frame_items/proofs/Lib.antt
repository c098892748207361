pub mod Parts
pub mod Leading
pub mod NameLaws
pub mod OperatorLaws
pub mod MemberLaws
pub mod ListLaws
pub mod EntryLaws
