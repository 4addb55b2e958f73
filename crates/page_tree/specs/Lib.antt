pub mod Attributes
pub mod Places
pub mod Rows
pub mod DocumentState
pub mod Faults
pub mod Inside
pub mod Display
pub mod Texts
