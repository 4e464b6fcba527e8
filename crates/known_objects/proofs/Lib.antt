pub mod FunctionSets
pub mod Listings
pub mod Gifts
pub mod SameLinks
pub mod Describing
pub mod MaskedLists
pub mod KnownLists
pub mod FollowedMask
pub mod EmptySets
mod SetSteps
pub mod RelevantSets
