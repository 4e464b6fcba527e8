pub mod Gathering
pub mod Found
pub mod Positions
pub mod TakerExamples
