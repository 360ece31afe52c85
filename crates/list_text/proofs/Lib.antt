-- The laws, which other crates may cite too.
pub mod LineLaws
pub mod ListTextLaws
pub mod RoundTrip
