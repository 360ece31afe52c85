-- The laws, which other crates may cite too.
pub mod WordLaws
pub mod BytesLaws
pub mod SignedLaws
