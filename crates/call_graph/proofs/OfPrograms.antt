pub mod Filed
pub mod Apart
pub mod Listed
pub mod Found
pub mod Files
pub mod Placed
