pub mod Names
pub mod Overlays
pub mod Searches
