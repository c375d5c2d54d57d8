pub mod Answering
pub mod Questions
pub mod Taking
pub mod Telling
