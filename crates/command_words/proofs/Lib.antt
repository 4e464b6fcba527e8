pub mod Answered
pub mod Complete
pub mod Examples
pub mod Generations
pub mod Sound
pub mod Steps
