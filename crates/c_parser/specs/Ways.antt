pub mod Gathered
pub mod TypedOnce
