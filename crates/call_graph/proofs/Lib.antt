pub mod Linked
mod Examples
pub mod OfPrograms
pub mod FunctionGraphs
