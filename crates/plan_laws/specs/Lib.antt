-- The definitions, which the contracts of other crates cite.
pub mod Plan
pub mod Unbeaten
pub mod Reach
