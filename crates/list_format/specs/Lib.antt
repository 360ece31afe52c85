-- The definitions, which the contracts of other crates cite.
pub mod Lists
pub mod Walk
pub mod Read
pub mod Write
pub mod RoundTrip
