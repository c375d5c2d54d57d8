pub mod Resting
pub mod Standing
pub mod Filtering
pub mod Sessions
