pub mod Merges
pub mod Ranges
pub mod Whole
pub mod ProcessedLemmas
pub mod Keys
pub mod EchoWhole
