pub mod CallEnds
pub mod CalledObjects
pub mod FollowedCalls
pub mod FoundCalls
pub mod Handing
pub mod Waiters
