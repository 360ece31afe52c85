-- The laws, which other crates may cite too.
pub mod DecimalLaws
pub mod PutLaws
pub mod SaidLaws
