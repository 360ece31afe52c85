-- The definitions, which the laws of other crates cite.
pub mod Search
pub mod Lowest
