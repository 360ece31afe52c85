-- The definitions, which the contracts of other crates cite.
pub mod Relist
