-- The definitions that the contracts cite.
pub mod Run
pub mod Over
