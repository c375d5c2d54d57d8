pub mod Words
pub mod SessionWords
pub mod Commands
