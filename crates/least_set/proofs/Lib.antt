pub mod Enumerating
pub mod Growing
pub mod Keyed
pub mod Meeting
pub mod Processing
pub mod OneWorking
pub mod TwoWorking
pub mod Counting
