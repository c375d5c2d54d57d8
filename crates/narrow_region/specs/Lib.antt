pub mod Positions
pub mod Kept
