pub mod Tables
pub mod Functions
pub mod Places
pub mod Texts
pub mod TokenSearch
pub mod UnitPlaces
pub mod Ways
