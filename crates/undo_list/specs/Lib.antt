pub mod Records
pub mod State
pub mod Plans
pub mod Walks
