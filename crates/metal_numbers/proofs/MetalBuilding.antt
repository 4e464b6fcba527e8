pub mod InOrder
pub mod Made
pub mod Pushing
