pub mod Visiting
pub mod Reached
pub mod Found
