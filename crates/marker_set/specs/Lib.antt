pub mod Numbered
pub mod Changes
pub mod Blocks
pub mod Homes
pub mod Room
pub mod Search
