pub mod Names
pub mod Steps
pub mod Precedence
pub mod Giving
