-- The laws, which other crates may cite too.
pub mod ToldLaws
pub mod Apart
pub mod Jobs
