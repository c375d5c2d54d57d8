pub mod Hooked
pub mod Lists
