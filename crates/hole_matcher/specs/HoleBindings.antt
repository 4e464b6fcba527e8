pub mod Bindings
pub mod Settings
pub mod Sorts
