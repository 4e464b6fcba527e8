pub mod Cutting
pub mod WordsByLength
