pub mod Meaning
pub mod Resolving
pub mod Table
