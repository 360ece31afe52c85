-- The definitions that the theorems cite.
pub mod NeededRules
