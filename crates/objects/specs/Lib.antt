pub mod Selectors
pub mod Units
pub mod Origins
pub mod Equality
pub mod Pieces
pub mod Ways
