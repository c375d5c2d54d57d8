pub mod Found
pub mod Loops
pub mod Words
pub mod Pairing
pub mod Symbols
