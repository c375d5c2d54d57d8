pub mod Gaps
pub mod Pairs
pub mod Standing
pub mod Objects
pub mod Strings
pub mod Kinds
pub mod Dumped
