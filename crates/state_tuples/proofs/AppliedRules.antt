pub mod Lists
pub mod Numbered
pub mod MatchedOnce
pub mod Takers
pub mod BoundObjects
pub mod OfEvents
