pub mod Allowing
pub mod Counting
pub mod Passing
pub mod ValueLists
pub mod ValueShapes
