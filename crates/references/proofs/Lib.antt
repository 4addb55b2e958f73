pub mod IdentifierText
pub mod Indexed
pub mod Issuing
pub mod Finding
pub mod References
pub mod Counting
pub mod AllHanded
