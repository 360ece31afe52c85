-- The laws, which other crates may cite too.
pub mod StepLaws
pub mod WhyTextLaws
