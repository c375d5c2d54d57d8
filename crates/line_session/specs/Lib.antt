pub mod Handlers
pub mod Script
pub mod Lines
pub mod Replies
pub mod Forms
