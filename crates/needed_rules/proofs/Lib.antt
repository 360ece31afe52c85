-- The theorems.
pub mod NeededLaws
