pub mod Meaning
pub mod PropertyArguments
