-- The laws, which other crates may cite too.
pub mod OffsetLaws
pub mod TwoLaws
pub mod UnbeatenLaws
pub mod ReachLaws
pub mod StepLaws
pub mod ReachTwo
