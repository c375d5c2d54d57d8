pub mod Cutting
pub mod Merging
pub mod Seeing
pub mod Finding
pub mod Walking
pub mod Groups
pub mod Passing
pub mod Parts
