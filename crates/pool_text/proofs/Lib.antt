-- The laws, which other crates may cite too.
pub mod MadeLaws
pub mod PoolTextLaws
