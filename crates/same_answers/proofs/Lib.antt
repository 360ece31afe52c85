-- The laws, which other crates may cite too.
pub mod JoinsLaws
pub mod SameLaws
