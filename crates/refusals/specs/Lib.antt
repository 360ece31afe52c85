-- The definitions that the contracts cite.
pub mod Checks
pub mod Reply
