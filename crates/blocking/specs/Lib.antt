-- The definitions that the contracts cite.
pub mod Paths
pub mod Blocking
