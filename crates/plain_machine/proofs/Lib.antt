pub mod Composed
pub mod Digits
