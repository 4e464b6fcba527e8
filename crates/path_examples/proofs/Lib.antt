pub mod Laws
pub mod Followed
pub mod EngineSteps
pub mod Computed
