pub mod Tuples
pub mod Lists
pub mod Followed
pub mod MovedTuples
pub mod Events
pub mod Calls
