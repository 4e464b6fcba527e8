pub mod Builders
pub mod Machines
pub mod Places
