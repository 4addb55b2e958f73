pub mod Unique
pub mod Lookups
pub mod Lengths
