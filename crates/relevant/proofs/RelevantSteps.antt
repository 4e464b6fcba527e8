pub mod Empty
pub mod Traced
pub mod Sources
pub mod Found
