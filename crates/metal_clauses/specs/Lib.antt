pub mod Cuts
pub mod Places
pub mod Read
pub mod MetalParts
pub mod Ways
