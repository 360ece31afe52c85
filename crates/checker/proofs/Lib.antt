-- The laws, which other crates may cite too.
pub mod MarginLaws
pub mod BrokenLaws
pub mod CheckLaws
