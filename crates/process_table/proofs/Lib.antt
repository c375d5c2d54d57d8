pub mod Changing
pub mod Finding
pub mod Numbering
pub mod Reading
pub mod Resolution
pub mod Standing
