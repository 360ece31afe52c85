-- The laws, which other crates may cite too.
pub mod SearchLaws
pub mod LowestLaws
