pub mod Linked
pub mod Listed
pub mod ByFunction
pub mod Followed
pub mod FollowedSets
pub mod Theorems
pub mod RelevantSets
