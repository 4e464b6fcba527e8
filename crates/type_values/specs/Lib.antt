pub mod Types
pub mod Vars
pub mod BasicTypes
