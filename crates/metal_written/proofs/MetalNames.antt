pub mod Positions
pub mod Growing
