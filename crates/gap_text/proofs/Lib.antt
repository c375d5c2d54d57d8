pub mod Rows
pub mod Gaps
pub mod BlockLemmas
pub mod Growing
pub mod Moves
pub mod Texts
pub mod Elsewhere
pub mod Copying
