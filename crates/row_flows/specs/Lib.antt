pub mod Numbers
pub mod Choices
pub mod Behind
pub mod Calm
pub mod Crossing
pub mod ConcernedObjects
pub mod Concerns
pub mod Ways
