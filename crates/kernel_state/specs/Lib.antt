pub mod Defaults
pub mod Meaning
pub mod Setting
pub mod Starting
pub mod Whole
