pub mod Numbered
pub mod Slots
pub mod Entries
pub mod Seen
pub mod Moves
pub mod Winner
pub mod Rivals
pub mod Forward
