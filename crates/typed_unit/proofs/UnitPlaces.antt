pub mod Visited
pub mod Steps
pub mod ByCase
pub mod Lists
pub mod Functions
pub mod Typed
pub mod Examples
