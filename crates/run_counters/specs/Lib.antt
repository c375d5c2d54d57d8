pub mod Counting
pub mod HandingOn
