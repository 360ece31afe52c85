-- The laws, which other crates may cite too.
pub mod OrderLaws
pub mod UniqueLaws
pub mod GroupLaws
