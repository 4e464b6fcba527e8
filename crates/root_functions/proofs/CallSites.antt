pub mod Gains
pub mod Evaluated
