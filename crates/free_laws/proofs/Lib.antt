-- The laws, which other crates may cite too.
pub mod ConstraintList
pub mod Sweep
pub mod Count
pub mod Least
pub mod Rounds
pub mod FreeLaws
pub mod RivalLaws
pub mod UnbeatenLaws
pub mod Cap
pub mod Bound
pub mod Cycle
