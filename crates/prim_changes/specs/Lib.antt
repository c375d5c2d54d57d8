pub mod Meaning
pub mod Planning
