-- The laws, which other crates may cite too.
pub mod RefusalTextLaws
