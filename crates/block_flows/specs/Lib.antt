pub mod Events
pub mod Ends
pub mod Firings
pub mod FollowedLists
pub mod Masks
pub mod IdleEvents
pub mod QuietEvents
pub mod TupleFlows
