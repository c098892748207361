pub mod Utf8Lemmas
pub mod Utf16Lemmas
pub mod QuotedLemmas
pub mod TextLemmas
