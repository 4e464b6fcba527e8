pub mod Exits
pub mod Kept
pub mod Lending
pub mod Ways
