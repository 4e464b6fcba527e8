pub mod Found
pub mod Faults
pub mod Sources
pub mod Checkers
pub mod Refusals
