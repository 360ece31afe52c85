-- The laws, which other crates may cite too.
pub mod StoreLaws
pub mod PassLaws
pub mod DecideLaws
