pub mod Along
pub mod Kept
