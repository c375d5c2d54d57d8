pub mod InTurn
pub mod Strings
pub mod MadeForms
