pub mod Adding
pub mod Buffers
pub mod Names
pub mod Written
