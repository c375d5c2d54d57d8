pub mod Codings
pub mod Pieces
pub mod Sequence
pub mod Returns
pub mod Steps
