-- The laws, which other crates may cite too.
pub mod TurnLaws
pub mod AppendLaws
pub mod FromLaws
pub mod MergeLaws
pub mod MergingLaws
pub mod RestLaws
