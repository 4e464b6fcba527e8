pub mod Faults
pub mod Callees
pub mod Followed
pub mod OfPrograms
pub mod FunctionGraphs
