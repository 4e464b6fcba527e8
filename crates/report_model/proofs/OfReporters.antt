pub mod Appending
pub mod Examples
pub mod Objects
pub mod Places
