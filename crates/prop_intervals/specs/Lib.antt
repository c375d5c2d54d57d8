pub mod Runs
pub mod Tree
pub mod Sets
pub mod Edits
pub mod Others
