pub mod Given
pub mod Words
pub mod Reading
pub mod Command
