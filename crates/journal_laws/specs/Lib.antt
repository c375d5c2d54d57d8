pub mod Replaying
pub mod Spoken
