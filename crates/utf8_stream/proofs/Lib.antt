pub mod Blocks
pub mod Cuttings
pub mod Fronts
pub mod Lines
pub mod Readings
pub mod Returns
pub mod Steps
pub mod Tails
