-- The laws, which other crates may cite too.
pub mod LoadLaws
pub mod TextLaws
