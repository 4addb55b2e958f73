pub mod Parts
pub mod RenderedText
pub mod Writing
pub mod Found
