-- The definitions, which the contracts of other crates cite.
pub mod Split
pub mod Choices
pub mod Marks
