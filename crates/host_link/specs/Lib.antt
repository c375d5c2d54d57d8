pub mod Cursors
pub mod Hosts
pub mod Logged
pub mod Meaning
pub mod Played
pub mod Recorded
