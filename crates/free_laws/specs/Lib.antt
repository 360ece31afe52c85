-- The definitions, which the contracts of other crates cite.
pub mod Free
pub mod Constraint
pub mod Raise
pub mod Rival
pub mod Unbeaten
