pub mod Blocks
pub mod Changes
pub mod Margins
pub mod Meaning
pub mod Recording
pub mod Standing
pub mod Undoing
