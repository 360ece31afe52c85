-- The laws, which other crates may cite too.
pub mod CaseLaws
pub mod StateLaws
pub mod ScanLaws
pub mod ReadsLaws
pub mod UnlinedLaws
pub mod PlaceLaws
pub mod StoredLaws
