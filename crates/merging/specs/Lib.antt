-- The definitions that the contracts cite.
pub mod Merge
pub mod Turn
