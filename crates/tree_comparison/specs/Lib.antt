pub mod TreeLevels
pub mod MatchedTypes
