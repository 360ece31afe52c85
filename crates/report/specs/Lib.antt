-- The definitions that the contracts cite.
pub mod Report
pub mod Printed
