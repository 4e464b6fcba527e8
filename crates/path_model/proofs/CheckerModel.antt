pub mod Laws
pub mod MovedObjects
pub mod Sources
pub mod Reaching
pub mod HandedBack
pub mod MoveExamples
pub mod CallExamples
pub mod ChoiceExamples
