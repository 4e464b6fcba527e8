pub mod InLimits
pub mod InHoles
pub mod InNames
pub mod Counts
