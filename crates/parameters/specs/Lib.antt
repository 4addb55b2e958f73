pub mod Kinds
pub mod Table
pub mod Refusals
pub mod Body
pub mod Parameters
