-- The laws, which other crates may cite too.
pub mod FirstLaws
pub mod FoundLaws
pub mod TimingsLaws
pub mod ChoiceLaws
pub mod MarkLaws
pub mod ClosureLaws
