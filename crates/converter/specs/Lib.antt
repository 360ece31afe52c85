-- The definitions that the contracts cite.
pub mod Convert
pub mod Marks
