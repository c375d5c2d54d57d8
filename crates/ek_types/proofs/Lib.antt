pub mod Readings
pub mod Failing
pub mod Listed
pub mod Printing
pub mod PropSets
pub mod Pieces
pub mod Putting
pub mod Naming
pub mod InTurn
mod InOrder
mod Appending
