pub mod SameWords
