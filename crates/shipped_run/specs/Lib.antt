pub mod Exits
pub mod Shipped
