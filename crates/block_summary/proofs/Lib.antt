pub mod Unchanged
pub mod Keeping
