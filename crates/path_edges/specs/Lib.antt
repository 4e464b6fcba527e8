pub mod Edges
pub mod MetStates
pub mod Relations
pub mod Theorems
pub mod EdgeSteps
pub mod Ways
