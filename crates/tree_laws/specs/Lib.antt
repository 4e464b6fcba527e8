pub mod TreeEquality
pub mod Ways
