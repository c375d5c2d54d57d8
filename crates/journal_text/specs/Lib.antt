pub mod Lines
pub mod Allowed
pub mod Replayed
pub mod Reading
pub mod Journals
pub mod Transcripts
pub mod Lined
