pub mod Checkers
pub mod Errors
