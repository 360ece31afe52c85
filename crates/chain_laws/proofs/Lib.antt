-- The laws, which other crates may cite too.
pub mod StepLaws
pub mod ChainLaws
pub mod BlockLaws
