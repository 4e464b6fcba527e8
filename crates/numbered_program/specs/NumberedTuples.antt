pub mod Numbers
pub mod ObjectStates
pub mod FollowedObjects
pub mod Tuples
