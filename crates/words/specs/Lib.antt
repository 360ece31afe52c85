-- The definitions that the contracts cite.
pub mod Word
pub mod Bytes
pub mod Signed
