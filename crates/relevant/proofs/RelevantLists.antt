pub mod ByFunction
pub mod Relevances
