pub mod ComparedLevels
pub mod Sames
pub mod TreeLevels
pub mod MatchedTypes
