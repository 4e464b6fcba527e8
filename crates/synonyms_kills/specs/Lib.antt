pub mod Values
pub mod Targets
