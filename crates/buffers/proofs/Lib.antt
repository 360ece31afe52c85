-- The laws, which other crates may cite too.
pub mod RunLaws
pub mod FillLaws
pub mod PadLaws
