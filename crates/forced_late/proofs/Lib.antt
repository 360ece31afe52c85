-- The laws, which other crates may cite too.
pub mod ForestLaws
pub mod GrowLaws
