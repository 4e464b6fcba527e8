pub mod Rows
pub mod FollowedCall
pub mod Stands
