pub mod Finding
pub mod Making
pub mod Evaporating
pub mod Standing
pub mod TextChanges
pub mod NameLemmas
pub mod Ends
