pub mod Aims
pub mod KeptWaits
pub mod Rounds
