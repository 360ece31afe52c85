-- The definitions that the contracts cite.
pub mod Limits
pub mod Rules
