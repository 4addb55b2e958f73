pub mod Table
pub mod Path
pub mod Segments
pub mod Route
pub mod Spelling
pub mod Routes
pub mod Shown
