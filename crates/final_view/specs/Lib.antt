pub mod Faults
pub mod Marks
pub mod Scenes
pub mod Showing
pub mod Shown
pub mod Visible
