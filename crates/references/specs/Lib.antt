pub mod Identifier
pub mod Series
pub mod Handed
pub mod Issued
pub mod Keys
pub mod Laws
pub mod HandedAll
