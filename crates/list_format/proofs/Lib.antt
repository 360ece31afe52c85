-- The laws, which other crates may cite too.
pub mod ListLaws
pub mod NeedsLaws
pub mod WalkLaws
pub mod ReadBack
pub mod WriteBack
pub mod ReadLaws
pub mod WriteLaws
