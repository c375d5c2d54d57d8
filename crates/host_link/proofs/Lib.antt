pub mod Due
pub mod Hosted
pub mod Plays
pub mod Rests
