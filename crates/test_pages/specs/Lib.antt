pub mod TwelveNodes
